-- Classes as a table: what its entries are, and what an edit of them makes of the classes.
use Rattle.std.proofs.lemmas.Bool.{and_parts}
use Rattle.std.specs.Prelude.{◌≡◌, ℕ, zero, suc, ◌+◌, ◌-◌, ◌<◌, ◌≤◌, Bool, true, false, cond, nat_eq, nat_lt, List, []}
use Rattle.std.specs.Prelude.{◌∷◌, ◌++◌, get_or, map}
use Rattle.std.specs.List.{range_with_len, filter}
use Rattle.std.proofs.Common.{refl, sym, ap, subst, ◌∙◌, arith}
use Rattle.std.proofs.lemmas.Bool.Decides.{nat_tests}
use Rattle.std.proofs.lemmas.List.{append-nil, map-id}
use Rattle.std.proofs.lemmas.List.FromFn.{filter_of_map_range_with_len_more}
use Rattle.chr_base.specs.declared.term.Term.{Term}
use Rattle.chr_base.specs.declared.term.Term.TheVariants.{Variable, Constant}
use Rattle.chr_confluence.specs.working.Solving.{identity_substitution, put_term}
use Rattle.chr_overlaps.specs.working.Tables.{class_in, is_below, are_below}

at_own_number : (a n i : ℕ) → get_or (map Variable (range_with_len a n)) i (Variable (a + i)) ≡ Variable (a + i)
at_own_number a zero i = refl
at_own_number a (suc n) zero = let e : a ≡ a + 0 = omega arith in ap Variable e
at_own_number a (suc n) (suc i) =
    let e : a + 1 + i ≡ a + suc i = omega arith in
    subst (λ j. get_or (map Variable (range_with_len (a + 1) n)) i (Variable j) ≡ Variable j) e
    (at_own_number (a + 1) n i)

pub table_single : (n : ℕ) → class_in (map Variable (range_with_len 0 n)) ≡ identity_substitution
table_single n i x = all x i
  where
    all : (x : ℕ) → get_or (map Variable (range_with_len 0 n)) x (Variable x) ≡ Variable x
    all x = let e : 0 + x ≡ x = omega arith in subst (λ j. get_or (map Variable (range_with_len 0 n)) x (Variable j)
        ≡ Variable j) e (at_own_number 0 n x)

pub single_below : (m a n : ℕ) → a + n ≤ m → are_below m (map Variable (range_with_len a n)) ≡ true
single_below m a zero h = refl
single_below m a (suc n) h =
    let e : nat_lt a m ≡ true = grind (arith, nat_tests) in
    rw e (single_below m (a + 1) n (omega arith))

-- a term out of the table
pub below_at : (n : ℕ) (ts : List Term) (x : ℕ) (d : Term) → are_below n ts ≡ true → is_below n d ≡ true
    → is_below n (get_or ts x d) ≡ true
below_at n [] x d h g = g
below_at n (t ∷ ts) zero d h g = (and_parts (is_below n t) _ h).0
below_at n (t ∷ ts) (suc x) d h g = below_at n ts x d (and_parts (is_below n t) _ h).1 g

put_below : (n x : ℕ) (t s : Term) → is_below n t ≡ true → is_below n s ≡ true → is_below n (put_term x t s) ≡ true
put_below n x t (Constant c) h g = refl
put_below n x t (Variable y) h g = elim (nat_eq y x) as (λ b. is_below n (cond b t (Variable y)) ≡ true)
    [ true ↦ h | false ↦ g ]

pub puts_below : (n x : ℕ) (t : Term) (ts : List Term) → is_below n t ≡ true → are_below n ts ≡ true
    → are_below n (map (put_term x t) ts) ≡ true
puts_below n x t [] h g = refl
puts_below n x t (s ∷ ts) h g =
    let one = put_below n x t s h (and_parts (is_below n s) _ g).0 in
    rw one (puts_below n x t ts h (and_parts (is_below n s) _ g).1)

-- one variable more is looked at
looked_at : (p : ℕ → Bool) (v : ℕ) → 0 < v → filter p (range_with_len 1 (v + 1 - 1))
    ≡ filter p (range_with_len 1 (v - 1)) ++ cond (p v) (v ∷ []) []
looked_at p v h =
    let e : v + 1 - 1 ≡ (v - 1) + 1 = omega arith in
    let f : 1 + (v - 1) ≡ v = omega arith in
    ap (λ n. filter p (range_with_len 1 n)) e
    ∙ ap (filter p) (sym (map-id (range_with_len 1 (v - 1 + 1))))
    ∙ filter_of_map_range_with_len_more p (λ x. x) 1 (v - 1) v f
    ∙ ap (λ xs. filter p xs ++ cond (p v) (v ∷ []) []) (map-id (range_with_len 1 (v - 1)))

pub own_taken : (p : ℕ → Bool) (v : ℕ) (xs ys : List ℕ) → 0 < v → p v ≡ true → xs ≡ filter p (range_with_len 1 (v - 1))
    → ys ≡ xs ++ v ∷ [] → ys ≡ filter p (range_with_len 1 (v + 1 - 1))
own_taken p v xs ys h t e f = f ∙ ap (λ zs. zs ++ v ∷ []) e
    ∙ ap (λ b. filter p (range_with_len 1 (v - 1)) ++ cond b (v ∷ []) []) (sym t) ∙ sym (looked_at p v h)

pub bound_passed : (p : ℕ → Bool) (v : ℕ) (xs : List ℕ) → 0 < v → p v ≡ false → xs ≡ filter p (range_with_len 1 (v - 1))
    → xs ≡ filter p (range_with_len 1 (v + 1 - 1))
bound_passed p v xs h t e = e ∙ sym (append-nil _) ∙ ap (λ b. filter p (range_with_len 1 (v - 1)) ++ cond b (v ∷ []) [])
    (sym t) ∙ sym (looked_at p v h)
