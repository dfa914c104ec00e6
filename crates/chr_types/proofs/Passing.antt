-- What a walk meets are the lists that pass.
use Rattle.std.specs.Prelude.{◌≡◌, ℕ, suc, zero, ℤ, Bool, true, false, ◌&&◌, cond, List, [], ◌∷◌, ◌++◌, length, nat_le}
use Rattle.std.specs.List.{flat_map, filter}
use Rattle.std.proofs.Common.{refl, sym, ap, ◌∙◌, inl, inr, drop, append_assoc, append-nil}
use Rattle.std.proofs.lemmas.List.Elements.{filter-append}
use Rattle.chr_types.specs.OrderTypes.{In}
use Rattle.chr_types.specs.working.Search.{holes_by, lists_at, lists_over}
use Rattle.chr_types.specs.working.Walks.{walked, walked_at}
use Rattle.chr_types.specs.Visits.{are_admitted}
use Rattle.chr_types.specs.declared.search.Candidate.{Candidate}
use Rattle.chr_types.proofs.Members.{in_either}

filter_flat : {X A : Type 0} (f : A → Bool) (g : X → List A) (xs : List X) → filter f (flat_map g xs)
    ≡ flat_map (λ x. filter f (g x)) xs
filter_flat f g [] = refl
filter_flat f g (x ∷ xs) = filter-append f (g x) (flat_map g xs) ∙ ap (λ ys. filter f (g x) ++ ys) (filter_flat f g xs)

flat_same : {X A : Type 0} (f g : X → List A) (xs : List X) → ((x : X) → f x ≡ g x) → flat_map f xs ≡ flat_map g xs
flat_same f g [] e = refl
flat_same f g (x ∷ xs) e = λ i. e x i ++ flat_same f g xs e i

filter_same : {A : Type 0} (f g : A → Bool) (xs : List A) → ((x : A) → In x xs → f x ≡ g x) → filter f xs ≡ filter g xs
filter_same f g [] e = refl
filter_same f g (x ∷ xs) e = λ i. cond (e x (inl refl) i) (x ∷ filter_same f g xs (λ y j. e y (inr j)) i)
    (filter_same f g xs (λ y j. e y (inr j)) i)

filter_none : {A : Type 0} (f : A → Bool) (xs : List A) → ((x : A) → In x xs → f x ≡ false) → filter f xs ≡ []
filter_none f [] e = refl
filter_none f (x ∷ xs) e = ap (λ b. cond b (x ∷ filter f xs) (filter f xs)) (e x (inl refl))
    ∙ filter_none f xs (λ y j. e y (inr j))

in_flat : {X A : Type 0} (r : A) (f : X → List A) (xs : List X) → In r (flat_map f xs) → (x : X) × In r (f x)
in_flat r f [] i = elim i [ ]
in_flat {X} r f (x ∷ xs) i = elim (in_either r (f x) (flat_map f xs) i) as (λ _. (x : X) × In r (f x))
    [ inl j ↦ (x, j) | inr j ↦ in_flat r f xs j ]

if_in : {A : Type 0} (r : A) (t : Bool) (xs : List A) → In r (cond t xs []) → In r xs
if_in r true xs i = i
if_in r false xs i = elim i [ ]

-- each of the lists begins with p
begins : (ks : List Candidate) (k : ℕ) (p h r : List ℤ) → In r (lists_over ks k p h) → (q : List ℤ) × (r ≡ p ++ q)
begins ks zero p h r i = elim i as (λ _. (q : List ℤ) × (r ≡ p ++ q))
    [ inl e ↦ ([], e ∙ sym (append-nil p)) | inr n ↦ absurd n ]
begins ks (suc k) p h r i =
    let m = in_flat r (lists_at (lists_over ks k) k p h) ks i in
    let b = begins ks k (p ++ m.0.value ∷ []) (holes_by m.0 p h) r
    (if_in r (nat_le (length (holes_by m.0 p h)) k) (lists_over ks k (p ++ m.0.value ∷ []) (holes_by m.0 p h))
    m.1) in
    (m.0.value ∷ b.0, b.1 ∙ append_assoc p (m.0.value ∷ []) b.0)

drop_own : (p q : List ℤ) → drop (length p) (p ++ q) ≡ q
drop_own [] q = refl
drop_own (x ∷ p) q = drop_own p q

-- whether each beginning of the list r past p is admitted
abbrev behind : (List ℤ → Bool) → List ℤ → List ℤ → Bool
behind t p r = are_admitted t p (drop (length p) r)

-- each beginning past p is admitted just where p with one value more is, and each past that
behind_more : (t : List ℤ → Bool) (p : List ℤ) (v : ℤ) (r q : List ℤ) → r ≡ (p ++ v ∷ []) ++ q → behind t p r
    ≡ (t (p ++ v ∷ []) && behind t (p ++ v ∷ []) r)
behind_more t p v r q e =
    ap (behind t p) (e ∙ append_assoc p (v ∷ []) q) ∙ ap (are_admitted t p) (drop_own p (v ∷ q))
    ∙ ap (λ z. t (p ++ v ∷ []) && are_admitted t (p ++ v ∷ []) z) (sym (drop_own (p ++ v ∷ []) q))
    ∙ ap (λ z. t (p ++ v ∷ []) && behind t (p ++ v ∷ []) z) (sym e)

-- the walk at one candidate meets the lists that pass, where the walk behind it does
module _ (t : List ℤ → Bool) (ks : List Candidate) (k : ℕ)
    (deeper_are : (p h : List ℤ) → walked t ks k p h ≡ filter (behind t p) (lists_over ks k p h)) (p h : List ℤ)
    (c : Candidate) where
  abbrev longer : List ℤ
  longer = p ++ c.value ∷ []

  abbrev deeper : List (List ℤ)
  deeper = lists_over ks k longer (holes_by c p h)

  more : (b : Bool) → t longer ≡ b → (r : List ℤ) → In r deeper → behind t p r ≡ (b && behind t longer r)
  more b e r i = let q = begins ks k longer (holes_by c p h) r i in behind_more t p c.value r q.0 q.1
      ∙ ap (λ z. z && behind t longer r) e

  by_tests : (a b : Bool) → t longer ≡ b → cond a (cond b (walked t ks k longer (holes_by c p h)) []) []
      ≡ filter (behind t p) (cond a deeper [])
  by_tests false b e = refl
  by_tests true false e = sym (filter_none (behind t p) deeper (more false e))
  by_tests true true e = deeper_are longer (holes_by c p h)
      ∙ sym (filter_same (behind t p) (behind t longer) deeper (more true e))

  at_candidate : walked_at t (walked t ks k) k p h c ≡ filter (behind t p) (lists_at (lists_over ks k) k p h c)
  at_candidate = by_tests (nat_le (length (holes_by c p h)) k) (t longer) refl

pub walked_passes : (t : List ℤ → Bool) (ks : List Candidate) (k : ℕ) (p h : List ℤ) → walked t ks k p h
    ≡ filter (behind t p) (lists_over ks k p h)
walked_passes t ks zero p h = sym (ap (λ b. cond b (p ∷ []) [])
    (ap (are_admitted t p) (ap (drop (length p)) (sym (append-nil p)) ∙ drop_own p [])))
walked_passes t ks (suc k) p h =
    flat_same (walked_at t (walked t ks k) k p h) (λ c. filter (behind t p) (lists_at (lists_over ks k) k p h c)) ks
    (at_candidate t ks k (walked_passes t ks k) p h)
    ∙ sym (filter_flat (behind t p) (lists_at (lists_over ks k) k p h) ks)
