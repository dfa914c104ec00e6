-- Positions joined note by note.
use Rattle.std.specs.Prelude.{◌≡◌, ℕ, zero, suc, ◌+◌, ◌<◌, ◌≤◌, ◌⊎◌, Bool, true, false, cond, nat_eq, nat_lt, List, []}
use Rattle.std.specs.Prelude.{◌∷◌, ◌++◌, map, length, get_or, take, min, max}
use Rattle.std.specs.List.{All, range_with_len}
use Rattle.std.proofs.lemmas.List.Elements.{All-append}
use Rattle.std.proofs.Common.{refl, sym, ap, subst, ◌∙◌, arith, inl, inr}
use Rattle.std.proofs.lemmas.Bool.{eqb-true, eqb-false, ltb-true, ltb-false}
use Rattle.std.proofs.lemmas.List.FromFn.{length-range_with_len, get_or-range_with_len, map-range_with_len_more}
use Rattle.std.proofs.lemmas.List.{get_or-map, get_or_past, length-map, map-id, take_more, get_or_push}
use Rattle.std.proofs.lemmas.List.{get_or_append_left}
use Rattle.chr_types.proofs.Members.{in_first, in_second, in_last}
use Rattle.chr_sorting.specs.declared.notes.Note.{Note}
use Rattle.chr_sorting.specs.declared.notes.Note.TheVariants.{Joined, Stands, Compared}
use Rattle.chr_sorting.specs.FinestSorts.{sort_in}
use Rattle.chr_sorting.specs.working.Notes.{IsBelow, MeetsJoin, Joins, merged}

-- a sort in the table, or beyond it
merged_in : (ts : List ℕ) (low high p : ℕ) → high < length ts → sort_in (map (merged low high) ts) p
    ≡ merged low high (sort_in ts p)
merged_in ts low high p h = by (nat_lt p (length ts)) refl
  where
    n : length (map (merged low high) ts) ≡ length ts
    n = length-map ts (merged low high)

    by : (b : Bool) → nat_lt p (length ts) ≡ b → sort_in (map (merged low high) ts) p ≡ merged low high (sort_in ts p)
    by true e = get_or-map (merged low high) ts p p p (ltb-true p (length ts) e)
    by false e =
        let le = ltb-false p (length ts) e in
        let past : sort_in ts p ≡ p = get_or_past ts p p le in
        let same : merged low high p ≡ p = apart (nat_eq p high) refl le in
        get_or_past (map (merged low high) ts) p p (omega (arith, n, le)) ∙ sym same ∙ ap (merged low high) (sym past)
      where
        apart : (b : Bool) → nat_eq p high ≡ b → length ts ≤ p → cond b low p ≡ p
        apart true q le = let w = eqb-true p high q in absurd (omega (arith, w, le, h))
        apart false q le = refl

merged_yes : (low high s : ℕ) → s ≡ high → merged low high s ≡ low
merged_yes low high s e = by (nat_eq s high) refl
  where
    by : (b : Bool) → nat_eq s high ≡ b → cond b low s ≡ low
    by true q = refl
    by false q = absurd (eqb-false s high q e)

merged_low : (low high : ℕ) → merged low high low ≡ low
merged_low low high = by (nat_eq low high)
  where
    by : (b : Bool) → cond b low low ≡ low
    by true = refl
    by false = refl

merged_below : (low high s : ℕ) → low ≤ high → merged low high s ≤ s
merged_below low high s l = by (nat_eq s high) refl
  where
    by : (b : Bool) → nat_eq s high ≡ b → cond b low s ≤ s
    by true q = let e = eqb-true s high q in omega (arith, e, l)
    by false q = omega arith

-- a map of sorts that does not tell the two apart
merged_map : (f : ℕ → ℕ) (low high s : ℕ) → f low ≡ f high → f s ≡ f (merged low high s)
merged_map f low high s e = by (nat_eq s high) refl
  where
    by : (b : Bool) → nat_eq s high ≡ b → f s ≡ f (cond b low s)
    by true q = ap f (eqb-true s high q) ∙ sym e
    by false q = refl

-- nothing is joined yet
pub none_joined : (n : ℕ) → Joins [] (range_with_len 0 n)
none_joined n = record {
  below = λ p. (let e = own p in omega (arith, e));
  meets = λ m i. absurd i;
  least = λ f met p. ap f (sym (own p));
}
  where
    own : (p : ℕ) → sort_in (range_with_len 0 n) p ≡ p
    own p = by (nat_lt p n) refl
      where
        by : (b : Bool) → nat_lt p n ≡ b → sort_in (range_with_len 0 n) p ≡ p
        by true e = get_or-range_with_len 0 n p p (ltb-true p n e) ∙ omega arith
        by false e = let l = length-range_with_len 0 n in let le = ltb-false p n e in
            get_or_past (range_with_len 0 n) p p (omega (arith, l, le))

-- one pair more, whose sorts are these two
pub pair_joined : (notes : List Note) (ts : List ℕ) (p q low high : ℕ) → Joins notes ts → q < length ts → p < length ts
    → low ≤ high
    → ((sort_in ts p ≡ low) × (sort_in ts q ≡ high)) ⊎ ((sort_in ts p ≡ high) × (sort_in ts q ≡ low))
    → Joins (notes ++ Joined p q ∷ []) (map (merged low high) ts)
pair_joined notes ts p q low high j lq lp le these = record {
  below = λ x. (let e = new x in let m = merged_below low high (sort_in ts x) le in let b = j.below x in
      omega (arith, e, m, b));
  meets = λ n i. elim (in_last n (Joined p q) notes i) as (λ _. MeetsJoin (sort_in (map (merged low high) ts)) n) [
    | inl h ↦ still n (j.meets n h)
    | inr e ↦ subst (MeetsJoin (sort_in (map (merged low high) ts))) (sym e) (new p ∙ both ∙ sym (new q))
  ];
  least = λ f met x. (
      let before = j.least f (λ n i. met n (in_first n notes (Joined p q ∷ []) i)) in
      let one : f p ≡ f q = met (Joined p q) (in_second (Joined p q) notes (Joined p q ∷ []) (inl refl)) in
      before x ∙ merged_map f low high (sort_in ts x) (alike f before one these) ∙ ap f (sym (new x))
      );
}
  where
    high_less : high < length ts
    high_less = elim these as (λ _. high < length ts) [
      | inl h ↦ (let e = h.1 in let b = j.below q in omega (arith, e, b, lq))
      | inr h ↦ (let e = h.0 in let b = j.below p in omega (arith, e, b, lp))
    ]

    new : (x : ℕ) → sort_in (map (merged low high) ts) x ≡ merged low high (sort_in ts x)
    new x = merged_in ts low high x high_less

    both : merged low high (sort_in ts p) ≡ merged low high (sort_in ts q)
    both = elim these as (λ _. merged low high (sort_in ts p) ≡ merged low high (sort_in ts q)) [
      | inl h ↦ ap (merged low high) h.0 ∙ merged_low low high ∙ sym (merged_yes low high (sort_in ts q) h.1)
      | inr h ↦ merged_yes low high (sort_in ts p) h.0 ∙ sym (ap (merged low high) h.1 ∙ merged_low low high)
    ]

    alike : (f : ℕ → ℕ) → ((x : ℕ) → f x ≡ f (sort_in ts x)) → f p ≡ f q
        → ((sort_in ts p ≡ low) × (sort_in ts q ≡ high)) ⊎ ((sort_in ts p ≡ high) × (sort_in ts q ≡ low))
        → f low ≡ f high
    alike f before one (inl h) = ap f (sym h.0) ∙ sym (before p) ∙ one ∙ before q ∙ ap f h.1
    alike f before one (inr h) = ap f (sym h.1) ∙ sym (before q) ∙ sym one ∙ before p ∙ ap f h.0

    still : (n : Note) → MeetsJoin (sort_in ts) n → MeetsJoin (sort_in (map (merged low high) ts)) n
    still (Joined a b) e = new a ∙ ap (merged low high) e ∙ sym (new b)
    still (Stands a c) e = tt
    still (Compared a s) e = tt

passed : (notes : List Note) (ts : List ℕ) (n : Note) → Joins notes ts → ((f : ℕ → ℕ) → MeetsJoin f n)
    → Joins (notes ++ n ∷ []) ts
passed notes ts n j any = record {
  below = j.below;
  meets = λ m i. elim (in_last m n notes i) as (λ _. MeetsJoin (sort_in ts) m)
      [ inl h ↦ j.meets m h | inr e ↦ subst (MeetsJoin (sort_in ts)) (sym e) (any (sort_in ts)) ];
  least = λ f met. j.least f (λ m i. met m (in_first m notes (n ∷ []) i));
}

-- a note that joins nothing
pub other_joined : (notes : List Note) (ts : List ℕ) (n : Note) → Joins notes ts → ((p q : ℕ) → n ≡ Joined p q → ⊥)
    → Joins (notes ++ n ∷ []) ts
other_joined notes ts (Joined p q) j other = absurd (other p q refl)
other_joined notes ts (Stands p c) j other = passed notes ts (Stands p c) j (λ f. tt)
other_joined notes ts (Compared p s) j other = passed notes ts (Compared p s) j (λ f. tt)

-- ---- the next note

pub step_joined : (notes : List Note) (i : ℕ) (d : Note) (p q : ℕ) (ts : List ℕ) → i < length notes → get_or notes i d
    ≡ Joined p q → Joins (take i notes ++ Joined p q ∷ []) ts → Joins (take (i + 1) notes) ts
step_joined notes i d p q ts l e j = subst (λ ns. Joins ns ts)
    (ap (λ x. take i notes ++ x ∷ []) (sym e) ∙ sym (take_more notes i d l)) j

pub step_other : (notes : List Note) (i : ℕ) (d : Note) (ts : List ℕ) → i < length notes
    → ((p q : ℕ) → get_or notes i d ≡ Joined p q → ⊥) → Joins (take i notes) ts → Joins (take (i + 1) notes) ts
step_other notes i d ts l other j = subst (λ ns. Joins ns ts) (sym (take_more notes i d l))
    (other_joined (take i notes) ts (get_or notes i d) j other)

-- an entry of the table is the sort there
pub sort_here : (ts : List ℕ) (p : ℕ) (d e : ℕ) → p < length ts → get_or ts p d ≡ get_or ts p e
sort_here [] p d e l = absurd (omega (arith, l))
sort_here (t ∷ ts) zero d e l = refl
sort_here (t ∷ ts) (suc p) d e l = sort_here ts p d e (omega (arith, l))

-- a greater bound is a bound, too
raised_below : (n m : ℕ) (e : Note) → n ≤ m → IsBelow n e → IsBelow m e
raised_below n m (Joined p q) le h = let a = h.0 in let b = h.1 in (omega (arith, a, le), omega (arith, b, le))
raised_below n m (Stands p c) le h = omega (arith, h, le)
raised_below n m (Compared p s) le h = omega (arith, h, le)

one_below : (m : ℕ) (e : Note) → IsBelow m e → All (IsBelow m) (e ∷ [])
one_below m e h zero d l = h
one_below m e h (suc k) d l = absurd (omega (arith, l))

pub step_below : (notes : List Note) (i : ℕ) (d : Note) (n m : ℕ) → i < length notes → n ≤ m
    → All (IsBelow n) (take i notes) → IsBelow m (get_or notes i d) → All (IsBelow m) (take (i + 1) notes)
step_below notes i d n m l le h one = subst (All (IsBelow m)) (sym (take_more notes i d l))
    (All-append (IsBelow m) (take i notes) (get_or notes i d ∷ []) (λ k e b. raised_below n m _ le (h k e b))
    (one_below m (get_or notes i d) one))

-- what holds of each element by its place holds also with one more
pub each_pushed : {A : Type 0} (P : ℕ → A → Type 0) (xs : List A) (x d : A) (m : ℕ) → length xs ≡ m
    → ((n : ℕ) → n < m → P n (get_or xs n d)) → P m x → (n : ℕ) → n < m + 1 → P n (get_or (xs ++ x ∷ []) n d)
each_pushed P xs x d m e h p n l = by (nat_lt n m) refl
  where
    by : (b : Bool) → nat_lt n m ≡ b → P n (get_or (xs ++ x ∷ []) n d)
    by true t = let i = ltb-true n m t in subst (P n) (sym (get_or_append_left xs (x ∷ []) d n (omega (arith, i, e))))
        (h n i)
    by false t = let i = ltb-false n m t in let same : m ≡ n = omega (arith, i, l) in
        subst (P n) (sym (get_or_push xs x d n (e ∙ same))) (subst (λ k. P k x) same p)

-- one number more
pub range_more : (n : ℕ) → range_with_len 0 (n + 1) ≡ range_with_len 0 n ++ n ∷ []
range_more n = sym (map-id (range_with_len 0 (n + 1))) ∙ map-range_with_len_more (λ x. x) 0 n n (omega arith)
    ∙ ap (λ xs. xs ++ n ∷ []) (map-id (range_with_len 0 n))

-- a pair's sorts in order
pub pair_in_order : (notes : List Note) (ts : List ℕ) (p q low high : ℕ) → Joins notes ts → p < length ts
    → q < length ts → low ≡ min (get_or ts p 0) (get_or ts q 0) → high ≡ max (get_or ts p 0) (get_or ts q 0)
    → Joins (notes ++ Joined p q ∷ []) (map (merged low high) ts)
pair_in_order notes ts p q low high j lp lq is_low is_high = by (nat_lt (get_or ts q 0) (get_or ts p 0)) refl
  where
    one : sort_in ts p ≡ get_or ts p 0
    one = sort_here ts p p 0 lp

    other : sort_in ts q ≡ get_or ts q 0
    other = sort_here ts q q 0 lq

    by : (b : Bool) → nat_lt (get_or ts q 0) (get_or ts p 0) ≡ b → Joins (notes ++ Joined p q ∷ [])
        (map (merged low high) ts)
    by true e =
        let l = ltb-true (get_or ts q 0) (get_or ts p 0) e in
        pair_joined notes ts p q low high j lq lp (omega (arith, is_low, is_high))
        (inr (omega (arith, is_high, one, l), omega (arith, is_low, other, l)))
    by false e =
        let l = ltb-false (get_or ts q 0) (get_or ts p 0) e in
        pair_joined notes ts p q low high j lq lp (omega (arith, is_low, is_high))
        (inl (omega (arith, is_low, one, l), omega (arith, is_high, other, l)))
