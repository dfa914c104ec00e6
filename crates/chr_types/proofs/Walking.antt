-- One candidate more, in a walk.
use Rattle.std.specs.Prelude.{◌≡◌, ℕ, suc, zero, ℤ, ◌<◌, ◌≤◌, ◌+◌, ◌-◌, Bool, true, false, cond, List, [], ◌∷◌, ◌++◌}
use Rattle.std.specs.Prelude.{length, nat_le}
use mathlib.Core.Bool.{true≢false}
use Rattle.std.specs.Result.{IfOk}
use Rattle.std.proofs.Common.{Result, Ok, Err}
use Rattle.std.specs.List.{flat_map}
use Rattle.std.proofs.Common.{refl, sym, ap, subst, ◌∙◌, inl, inr, take, drop, get_or}
use Rattle.std.proofs.lemmas.List.{take_more, flat_map_more, take-append-drop}
use Rattle.std.proofs.lemmas.Grind.{flat_map-append}
use Rattle.std.proofs.lemmas.Bool.{leb-true, le-leb}
use Rattle.chr_types.specs.working.Search.{holes_by}
use Rattle.chr_types.proofs.Steps.{less_one}
use Rattle.chr_types.specs.working.Walks.{walked, walked_at}
use Rattle.chr_types.specs.Visits.{Visited}
use Rattle.chr_types.specs.declared.search.Candidate.{Candidate}

-- ---- visits

pub none_visited : {V : Type 0} (step : V → List ℤ → Bool → V → Type 0) (v : V) → Visited step v [] false v
none_visited step v = (refl, refl)

-- going on after a part that did not stop
pub visited_on : {V : Type 0} (step : V → List ℤ → Bool → V → Type 0) (xs ys : List (List ℤ)) (b : Bool) (v u w : V)
    → Visited step v xs false u → Visited step u ys b w → Visited step v (xs ++ ys) b w
visited_on step [] ys b v u w x y = subst (λ z. Visited step z ys b w) (sym x.1) y
visited_on {V} step (r ∷ xs) ys b v u w x y = elim x as (λ _. Visited step v (r ∷ (xs ++ ys)) b w) [
  | inl s ↦ absurd (true≢false (sym s.0))
  | inr s ↦ inr (s.0, s.1, visited_on step xs ys b s.0 u w s.2 y)
]

-- what comes after the list that stopped is not visited
pub visited_off : {V : Type 0} (step : V → List ℤ → Bool → V → Type 0) (xs ys : List (List ℤ)) (v w : V)
    → Visited step v xs true w → Visited step v (xs ++ ys) true w
visited_off step [] ys v w x = absurd (true≢false x.0)
visited_off {V} step (r ∷ xs) ys v w x = elim x as (λ _. Visited step v (r ∷ (xs ++ ys)) true w) [
  | inl s ↦ inl s
  | inr s ↦ inr (s.0, s.1, visited_off step xs ys s.0 w s.2)
]

-- ---- candidates

pub walked_next : (t : List ℤ → Bool) (ks : List Candidate) (n : ℕ) (p h : List ℤ) → (n ≡ 0 → ⊥) → walked t ks n p h
    ≡ flat_map (walked_at t (walked t ks (n - 1)) (n - 1) p h) ks
walked_next t ks zero p h n = absurd (n refl)
walked_next t ks (suc k) p h n = ap (λ m. flat_map (walked_at t (walked t ks m) m p h) ks) (less_one k)

pub at_passing : (t : List ℤ → Bool) (ks : List Candidate) (k : ℕ) (p h : List ℤ) (c : Candidate)
    (longer after : List ℤ)
    → longer ≡ p ++ c.value ∷ [] → after ≡ holes_by c p h → length (holes_by c p h) ≤ k → t longer ≡ true
    → walked_at t (walked t ks k) k p h c ≡ walked t ks k longer after
at_passing t ks k p h c longer after l a f y =
    ap (λ b. cond b (cond (t (p ++ c.value ∷ [])) (walked t ks k (p ++ c.value ∷ []) (holes_by c p h)) []) [])
    (le-leb (length (holes_by c p h)) k f)
    ∙ ap (λ b. cond b (walked t ks k (p ++ c.value ∷ []) (holes_by c p h)) []) (ap t (sym l) ∙ y)
    ∙ sym (λ i. walked t ks k (l i) (a i))

pub at_failing : (t : List ℤ → Bool) (ks : List Candidate) (k : ℕ) (p h : List ℤ) (c : Candidate) (longer : List ℤ)
    → longer ≡ p ++ c.value ∷ [] → t longer ≡ false → walked_at t (walked t ks k) k p h c ≡ []
at_failing t ks k p h c longer l n =
    ap (λ b. cond (nat_le (length (holes_by c p h)) k) (cond b (walked t ks k (p ++ c.value ∷ []) (holes_by c p h)) [])
    []) (ap t (sym l) ∙ n)
    ∙ either (nat_le (length (holes_by c p h)) k)
  where
    either : (b : Bool) → cond {A = List (List ℤ)} b [] [] ≡ []
    either true = refl
    either false = refl

pub at_full : (t : List ℤ → Bool) (ks : List Candidate) (k : ℕ) (p h : List ℤ) (c : Candidate)
    → (length (holes_by c p h) ≤ k → ⊥) → walked_at t (walked t ks k) k p h c ≡ []
at_full t ks k p h c n = by (nat_le (length (holes_by c p h)) k) refl
  where
    by : (b : Bool) → nat_le (length (holes_by c p h)) k ≡ b → walked_at t (walked t ks k) k p h c ≡ []
    by true e = absurd (n (leb-true (length (holes_by c p h)) k e))
    by false e = ap (λ b. cond b (cond (t (p ++ c.value ∷ [])) (walked t ks k (p ++ c.value ∷ []) (holes_by c p h)) [])
        []) e

-- the lists of the first candidates, and of one more
flat_more : {X : Type 0} (f : X → List (List ℤ)) (ks : List X) (i : ℕ) (d : X) → i < length ks
    → flat_map f (take (i + 1) ks) ≡ flat_map f (take i ks) ++ f (get_or ks i d)
flat_more f ks i d l = ap (flat_map f) (take_more ks i d l) ∙ sym (flat_map_more f [] (take i ks) (get_or ks i d))

flat_rest : {X : Type 0} (f : X → List (List ℤ)) (ks : List X) (i : ℕ) → flat_map f ks ≡ flat_map f (take i ks)
    ++ flat_map f (drop i ks)
flat_rest f ks i = ap (flat_map f) (sym (take-append-drop i ks)) ∙ flat_map-append f (take i ks) (drop i ks)

-- a walk that no list of the first candidates stops goes on through the lists of the next
pub one_more : {V X : Type 0} (step : V → List ℤ → Bool → V → Type 0) (f : X → List (List ℤ)) (ks : List X) (i : ℕ)
    (d : X) (v u w : V)
    → i < length ks → Visited step v (flat_map f (take i ks)) false u → Visited step u (f (get_or ks i d)) false w
    → Visited step v (flat_map f (take (i + 1) ks)) false w
one_more step f ks i d v u w l x y = subst (λ rs. Visited step v rs false w) (sym (flat_more f ks i d l))
    (visited_on step (flat_map f (take i ks)) (f (get_or ks i d)) false v u w x y)

-- or it stops at a list of the next candidate
pub stops_in : {V X : Type 0} (step : V → List ℤ → Bool → V → Type 0) (f : X → List (List ℤ)) (ks : List X) (i : ℕ)
    (d : X) (v u w : V)
    → i < length ks → Visited step v (flat_map f (take i ks)) false u → Visited step u (f (get_or ks i d)) true w
    → Visited step v (flat_map f ks) true w
stops_in step f ks i d v u w l x y =
    let here = subst (λ rs. Visited step v rs true w) (sym (flat_more f ks i d l))
    (visited_on step (flat_map f (take i ks)) (f (get_or ks i d)) true v u w x y) in
    subst (λ rs. Visited step v rs true w) (sym (flat_rest f ks (i + 1)))
    (visited_off step (flat_map f (take (i + 1) ks)) (flat_map f (drop (i + 1) ks)) v w here)

-- a candidate that has no lists changes nothing
pub no_more_at : {V X : Type 0} (step : V → List ℤ → Bool → V → Type 0) (f : X → List (List ℤ)) (ks : List X) (i : ℕ)
    (d : X) (v u : V)
    → i < length ks → Visited step v (flat_map f (take i ks)) false u → f (get_or ks i d) ≡ []
    → Visited step v (flat_map f (take (i + 1) ks)) false u
no_more_at step f ks i d v u l x e = one_more step f ks i d v u u l x
    (subst (λ rs. Visited step u rs false u) (sym e) (none_visited step u))

pub ok_then : {A E : Type 0} (r : Result A E) (P Q : A → Type 0) → ((x : A) → P x → Q x) → IfOk r P → IfOk r Q
ok_then (Ok x) P Q f h = f x h
ok_then (Err e) P Q f h = tt
