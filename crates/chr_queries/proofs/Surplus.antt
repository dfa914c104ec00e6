-- What a list in order has more than another.
use Rattle.std.proofs.Common.{◌≡◌, ℕ, ◌+◌, Bool, true, false, cond, List, [], ◌∷◌, refl, sym, ap, subst, ◌∙◌, arith}
use Rattle.std.specs.Prelude.{not, T, ◌-◌}
use Rattle.std.specs.declared.cmp.Ordering.{Ordering}
use Rattle.std.specs.declared.cmp.Ordering.TheVariants.{Less, Equal, Greater}
use Rattle.std.specs.Ordering.{is_gt, is_eq, eq_by_cmp, ordering_reverse}
use Rattle.chr_base.specs.declared.atom.Atom.{Atom}
use Rattle.chr_base.specs.Atoms.{atom_cmp}
use Rattle.chr_base.specs.FinBag.{count_in, is_rising, none_below, items, ◌⊖◌}
use Rattle.chr_base.specs.Stores.{Store, store_of}
use Rattle.chr_base.proofs.Atoms.{atom_total, atom_exact, same_is}
use Rattle.chr_base.proofs.FinBags.{absent, first, second, items_rise, of_list_less}
use Rattle.chr_base.proofs.Stores.{store_of-items}
use Rattle.chr_queries.specs.working.Surplus.{surplus, surplus_at, without_before}

greater_is : (r : Ordering) → is_gt r ≡ true → r ≡ Greater
greater_is Less p = absurd (subst T (sym p) tt)
greater_is Equal p = absurd (subst T (sym p) tt)
greater_is Greater p = refl

less_is : (r : Ordering) → T (not (is_gt r)) → is_eq (ordering_reverse r) ≡ false → r ≡ Less
less_is Less h p = refl
less_is Equal h p = absurd (subst T p tt)
less_is Greater h p = absurd h

-- an item that comes before x is not among x and what follows it
none_of_before : (q x : Atom) (xs : List Atom) → T (none_below atom_cmp x xs) → is_gt (atom_cmp x q) ≡ true
    → count_in atom_cmp q (x ∷ xs) ≡ 0
none_of_before q x xs h p =
    let below : atom_cmp q x ≡ Less = atom_total.antisymm q x ∙ ap ordering_reverse (greater_is _ p) in
    let rest : count_in atom_cmp q xs ≡ 0 = absent atom_cmp atom_total q x xs below h in
    rw below (omega (arith, rest))

-- what comes before x makes no difference
skips : (q x : Atom) (xs ys : List Atom) → T (none_below atom_cmp x xs)
    → count_in atom_cmp q (x ∷ xs) - count_in atom_cmp q (without_before atom_cmp x ys)
    ≡ count_in atom_cmp q (x ∷ xs) - count_in atom_cmp q ys
skips q x xs [] h = refl
skips q x xs (y ∷ ys) h =
    elim (is_gt (atom_cmp x y)) as (λ b. is_gt (atom_cmp x y) ≡ b → count_in atom_cmp q (x ∷ xs)
    - count_in atom_cmp q (cond b (without_before atom_cmp x ys) (y ∷ ys))
    ≡ count_in atom_cmp q (x ∷ xs) - (cond (eq_by_cmp atom_cmp q y) 1 0 + count_in atom_cmp q ys)) [
      | true ↦ λ p. passed p (skips q x xs ys h)
      | false ↦ λ p. refl
    ] refl
  where
    passed : is_gt (atom_cmp x y) ≡ true → count_in atom_cmp q (x ∷ xs)
        - count_in atom_cmp q (without_before atom_cmp x ys) ≡ count_in atom_cmp q (x ∷ xs) - count_in atom_cmp q ys
        → count_in atom_cmp q (x ∷ xs) - count_in atom_cmp q (without_before atom_cmp x ys)
        ≡ count_in atom_cmp q (x ∷ xs) - (cond (eq_by_cmp atom_cmp q y) 1 0 + count_in atom_cmp q ys)
    passed p e =
        elim (eq_by_cmp atom_cmp q y) as (λ b. eq_by_cmp atom_cmp q y ≡ b → count_in atom_cmp q (x ∷ xs)
        - count_in atom_cmp q (without_before atom_cmp x ys)
        ≡ count_in atom_cmp q (x ∷ xs) - (cond b 1 0 + count_in atom_cmp q ys)) [
          | true ↦ λ t. (let none : count_in atom_cmp q (x ∷ xs) ≡ 0 = subst
              (λ (z : Atom). count_in atom_cmp z (x ∷ xs) ≡ 0) (sym (same_is q y t)) (none_of_before y x xs h p) in
              omega (arith, none))
          | false ↦ λ t. omega (arith, e)
        ] refl

rises_without_before : (x : Atom) (ys : List Atom) → T (is_rising atom_cmp ys)
    → T (is_rising atom_cmp (without_before atom_cmp x ys))
rises_without_before x [] g = tt
rises_without_before x (y ∷ ys) g =
    elim (is_gt (atom_cmp x y)) as (λ b. T (is_rising atom_cmp (cond b (without_before atom_cmp x ys) (y ∷ ys)))) [
      | true ↦ rises_without_before x ys (second (none_below atom_cmp y ys) _ g)
      | false ↦ g
    ]

-- the list is empty, or its first item does not come before x
abbrev begins_from : Atom → List Atom → Bool
begins_from x [] = true
begins_from x (y ∷ ys) = not (is_gt (atom_cmp x y))

begins : (x : Atom) (ys : List Atom) → T (begins_from x (without_before atom_cmp x ys))
begins x [] = tt
begins x (y ∷ ys) =
    elim (is_gt (atom_cmp x y)) as (λ b. is_gt (atom_cmp x y) ≡ b → T (begins_from x
    (cond b (without_before atom_cmp x ys) (y ∷ ys)))) [
      | true ↦ λ p. begins x ys
      | false ↦ λ p. subst (λ b. T (not b)) (sym p) tt
    ] refl

counts_at : (q x : Atom) (xs zs : List Atom) (more : List Atom → List Atom) → T (begins_from x zs)
    → T (is_rising atom_cmp zs) → ((ws : List Atom) → T (is_rising atom_cmp ws)
    → count_in atom_cmp q (more ws) ≡ count_in atom_cmp q xs - count_in atom_cmp q ws)
    → count_in atom_cmp q (surplus_at atom_cmp x more zs) ≡ count_in atom_cmp q (x ∷ xs) - count_in atom_cmp q zs
counts_at q x xs [] more b g rest = let e = rest [] tt in omega (arith, e)
counts_at q x xs (z ∷ zs) more b g rest =
    elim (eq_by_cmp atom_cmp z x) as (λ c. eq_by_cmp atom_cmp z x ≡ c → count_in atom_cmp q
    (cond c (more zs) (x ∷ more (z ∷ zs)))
    ≡ (cond (eq_by_cmp atom_cmp q x) 1 0 + count_in atom_cmp q xs)
    - (cond (eq_by_cmp atom_cmp q z) 1 0 + count_in atom_cmp q zs)) [
      | true ↦ λ p. (let e = rest zs (second (none_below atom_cmp z zs) _ g) in
          let d : ◌≡◌ {A = ℕ} (cond (eq_by_cmp atom_cmp q z) 1 0) (cond (eq_by_cmp atom_cmp q x) 1 0) =
          ap (λ y. let n : ℕ = cond (eq_by_cmp atom_cmp q y) 1 0 in n) (same_is z x p) in
          omega (arith, e, d))
      | false ↦ λ p. apart p (rest (z ∷ zs) g)
    ] refl
  where
    apart : eq_by_cmp atom_cmp z x ≡ false → count_in atom_cmp q (more (z ∷ zs))
        ≡ count_in atom_cmp q xs - count_in atom_cmp q (z ∷ zs)
        → cond (eq_by_cmp atom_cmp q x) 1 0 + count_in atom_cmp q (more (z ∷ zs))
        ≡ (cond (eq_by_cmp atom_cmp q x) 1 0 + count_in atom_cmp q xs) - count_in atom_cmp q (z ∷ zs)
    apart p e =
        elim (eq_by_cmp atom_cmp q x) as (λ c. eq_by_cmp atom_cmp q x ≡ c → cond c 1 0 + count_in atom_cmp q
        (more (z ∷ zs)) ≡ (cond c 1 0 + count_in atom_cmp q xs) - count_in atom_cmp q (z ∷ zs)) [
          | true ↦ λ t. (let none : count_in atom_cmp q (z ∷ zs) ≡ 0 = subst
              (λ (y : Atom). count_in atom_cmp y (z ∷ zs) ≡ 0) (sym (same_is q x t)) (absent_x p) in
              omega (arith, e, none))
          | false ↦ λ t. omega (arith, e)
        ] refl
      where
        absent_x : eq_by_cmp atom_cmp z x ≡ false → count_in atom_cmp x (z ∷ zs) ≡ 0
        absent_x p =
            let less : atom_cmp x z ≡ Less = less_is (atom_cmp x z) b (ap is_eq (sym (atom_total.antisymm z x)) ∙ p) in
            let rest : count_in atom_cmp x zs ≡ 0 = absent atom_cmp atom_total x z zs less (first _ _ g) in
            rw less (omega (arith, rest))

counts : (xs ys : List Atom) → T (is_rising atom_cmp xs) → T (is_rising atom_cmp ys) → (q : Atom)
    → count_in atom_cmp q (surplus atom_cmp xs ys) ≡ count_in atom_cmp q xs - count_in atom_cmp q ys
counts [] ys h g q = omega arith
counts (x ∷ xs) ys h g q =
    counts_at q x xs (without_before atom_cmp x ys) (λ zs. surplus atom_cmp xs zs) (begins x ys)
    (rises_without_before x ys g) (λ ws rises. counts xs ws (second (none_below atom_cmp x xs) _ h) rises q)
    ∙ skips q x xs ys (first _ _ h)

-- what the items of a store are more than those of another is their difference
pub surplus_is : (s t : Store) → store_of (surplus atom_cmp (items s) (items t)) ≡ s ⊖ t
surplus_is s t =
    of_list_less atom_total atom_exact (items s) (items t) (surplus atom_cmp (items s) (items t))
    (counts (items s) (items t) (items_rise s) (items_rise t))
    ∙ ap (λ (u : Store). u ⊖ store_of (items t)) (store_of-items s) ∙ ap (λ (u : Store). s ⊖ u) (store_of-items t)
