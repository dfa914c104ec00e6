-- The partners of an atom at a head place, put round it.
use Rattle.std.specs.Prelude.{◌≡◌, ℕ, zero, suc, ◌<◌, ◌≤◌, List, [], ◌∷◌, ◌++◌, length, get_or, Some, IsTrue, ◌⊎◌}
use Rattle.std.proofs.Common.{refl, sym, ap, ◌∙◌, arith, inl, inr, length-append}
use Rattle.std.proofs.lemmas.Bool.{cases_lt}
use Rattle.std.proofs.lemmas.List.{length-map}
use Rattle.chr_base.specs.declared.atom.Atom.{Atom}
use Rattle.chr_base.specs.declared.rule.Rule.{Rule}
use Rattle.chr_base.specs.FinBag.{IsWithin}
use Rattle.chr_base.specs.Rules.{Valuation, heads_at, heads_of, guard_holds, atom_at}
use Rattle.chr_base.specs.Stores.{store_of}
use Rattle.chr_base.proofs.Atoms.{atom_total}
use Rattle.chr_base.proofs.FinBags.{count-of_list}
use Rattle.chr_plans.specs.declared.rows.Seat.{Seat}
use Rattle.chr_base.specs.Atoms.{no_atom}
use Rattle.chr_plans.specs.Seats.{head, seat, no_seat, atom_in, IsSeated}
use Rattle.chr_plans.specs.Grids.{Grid, contents, rows_in, SitIn}
use Rattle.chr_plans.specs.Laws.{RowsAreEnough}
use Rattle.chr_plans.proofs.ActiveAtoms.{by_places}
use Rattle.chr_plans.proofs.SeatedRows.{seated, count_contents}

-- an item put in at a place
abbrev around : {X : Type 0} → ℕ → X → List X → List X
around zero x xs = x ∷ xs
around (suc p) x [] = x ∷ []
around (suc p) x (y ∷ ys) = y ∷ around p x ys

around_at : {X : Type 0} (p : ℕ) (x d : X) (xs : List X) → p ≤ length xs → get_or (around p x xs) p d ≡ x
around_at zero x d xs l = refl
around_at (suc p) x d [] l = absurd (omega (arith, l))
around_at (suc p) x d (y ∷ ys) l = around_at p x d ys (omega (arith, l))

around_before : {X : Type 0} (p q : ℕ) (x d : X) (xs : List X) → q < p → p ≤ length xs → get_or (around p x xs) q d
    ≡ get_or xs q d
around_before zero q x d xs l m = absurd (omega (arith, l))
around_before (suc p) q x d [] l m = absurd (omega (arith, m))
around_before (suc p) zero x d (y ∷ ys) l m = refl
around_before (suc p) (suc q) x d (y ∷ ys) l m = around_before p q x d ys (omega (arith, l)) (omega (arith, m))

around_after : {X : Type 0} (p q : ℕ) (x d : X) (xs : List X) → p ≤ q → p ≤ length xs → get_or (around p x xs) (suc q) d
    ≡ get_or xs q d
around_after zero q x d xs l m = refl
around_after (suc p) q x d [] l m = absurd (omega (arith, m))
around_after (suc p) zero x d (y ∷ ys) l m = absurd (omega (arith, l))
around_after (suc p) (suc q) x d (y ∷ ys) l m = around_after p q x d ys (omega (arith, l)) (omega (arith, m))

append_around : (ys zs : List Atom) (a : Atom) → ys ++ a ∷ zs ≡ around (length ys) a (ys ++ zs)
append_around [] zs a = refl
append_around (y ∷ ys) zs a = ap (λ xs. y ∷ xs) (append_around ys zs a)

-- a place other than p is before it or after it
abbrev Side : ℕ → ℕ → Type 0
Side p q = (q < p) ⊎ ((k : ℕ) × (q ≡ suc k) × (p ≤ k))

side : (p q : ℕ) → (q ≡ p → ⊥) → Side p q
side p zero ne = inl (omega (arith, ne))
side p (suc k) ne = elim (cases_lt (suc k) p) as (λ _. Side p (suc k))
    [ inl less ↦ inl less | inr most ↦ inr (k, refl, omega (arith, most, ne)) ]

-- the others of an instance sit in different rows
seats_of : (r : Rule) (v : Valuation) (ts : Grid) (a : Atom) (ys zs : List Atom) → IsTrue (guard_holds v r.guard.items)
    → heads_at v r ≡ ys ++ a ∷ zs → IsWithin (store_of (ys ++ zs)) (contents ts)
    → (ss : List Seat) × IsSeated r (rows_in ts) (length ys) (ys ++ a ∷ zs) ss × (length ys < length (heads_of r))
seats_of r v ts a ys zs guard e within =
    let w = seated ts (ys ++ zs) (λ q. (let x = within q in let y = count-of_list atom_total (ys ++ zs) q in let z =
    count_contents q ts in omega (arith, x, y, z))) in
    let many = w.1.as_many in
    let la = length-append ys zs in
    let lb = length-append ys (a ∷ zs) in
    let p = length ys in
    let n : length (heads_of r) ≡ length (ys ++ a ∷ zs) = sym (length-map (heads_of r) (atom_at v)) ∙ ap length e in
    let ps : p ≤ length w.0 = omega (arith, many, la) in
    let px : p ≤ length (ys ++ zs) = omega (arith, la) in
    let h = append_around ys zs a in (
      around p no_seat w.0,
      record {
        instance = (v, e, guard);
        there = λ q o. (elim (side p q o.1) as (λ _. atom_in (rows_in ts) (seat (around p no_seat w.0) q)
            ≡ Some (head (ys ++ a ∷ zs) q)) [
              | inl before ↦ (let s = around_before p q no_seat no_seat w.0 before ps in
                  let g : head (ys ++ a ∷ zs) q ≡ head (ys ++ zs) q = ap (λ xs. head xs q) h
                  ∙ around_before p q a no_atom (ys ++ zs) before px in
                  ap (atom_in (rows_in ts)) s ∙ w.1.there q (omega (arith, before, px)) ∙ ap Some (sym g))
              | inr k ↦ (let s : seat (around p no_seat w.0) q ≡ seat w.0 k.0 = ap (seat (around p no_seat w.0)) k.1
                  ∙ around_after p k.0 no_seat no_seat w.0 k.2 ps in
                  let g : head (ys ++ a ∷ zs) q ≡ head (ys ++ zs) k.0 = ap (λ xs. head xs q) h
                  ∙ ap (head (around p a (ys ++ zs))) k.1 ∙ around_after p k.0 a no_atom (ys ++ zs) k.2 px in
                  let low : k.0 < length (ys ++ zs) = (let i = k.1 in let l = o.0 in omega (arith, l, n, la, lb, i)) in
                  ap (atom_in (rows_in ts)) s ∙ w.1.there k.0 low ∙ ap Some (sym g))
            ]);
        apart = λ q k o t ne same. apart_at p (ys ++ zs) w.0 ts w.1 ps q k (length (heads_of r))
            (omega (arith, n, la, lb)) o.0 t.0 o.1 t.1 ne same;
      },
      omega (arith, n, lb),
    )
  where
    from : (p : ℕ) (ss : List Seat) → p ≤ length ss → (q : ℕ) → Side p q → (i : ℕ)
        × (seat (around p no_seat ss) q ≡ seat ss i) × (((q < p) × (i ≡ q)) ⊎ ((p ≤ i) × (q ≡ suc i)))
    from p ss l q (inl b) = (q, around_before p q no_seat no_seat ss b l, inl (b, refl))
    from p ss l q (inr k) = (
      k.0,
      ap (seat (around p no_seat ss)) k.1 ∙ around_after p k.0 no_seat no_seat ss k.2 l,
      inr (k.2, k.1),
    )

    apart_at : (p : ℕ) (xs : List Atom) (ss : List Seat) (ts : Grid) → SitIn ts xs ss → p ≤ length ss → (q k n : ℕ)
        → n ≡ suc (length xs) → q < n → k < n → (q ≡ p → ⊥) → (k ≡ p → ⊥) → (q ≡ k → ⊥)
        → seat (around p no_seat ss) q ≡ seat (around p no_seat ss) k → ⊥
    apart_at p xs ss ts are l q k n en lq lk nq nk ne same =
        let i = from p ss l q (side p q nq) in
        let j = from p ss l k (side p k nk) in
        let both : seat ss i.0 ≡ seat ss j.0 = sym i.1 ∙ same ∙ j.1 in
        let many = are.as_many in
        let li : i.0 < length xs = low p (length xs) q i.0 n en lq (omega (arith, l, many)) i.2 in
        let lj : j.0 < length xs = low p (length xs) k j.0 n en lk (omega (arith, l, many)) j.2 in
        let differ : i.0 ≡ j.0 → ⊥ = differs p q k i.0 j.0 ne i.2 j.2 in
        elim (cases_lt i.0 j.0) as (λ _. ⊥) [
          | inl less ↦ are.apart i.0 j.0 less lj both
          | inr most ↦ are.apart j.0 i.0 (omega (arith, most, differ)) li (sym both)
        ]
      where
        low : (p m q i n : ℕ) → n ≡ suc m → q < n → p ≤ m → ((q < p) × (i ≡ q)) ⊎ ((p ≤ i) × (q ≡ suc i)) → i < m
        low p m q i n e l h (inl w) = let a = w.0 in let b = w.1 in omega (arith, e, l, h, a, b)
        low p m q i n e l h (inr w) = let a = w.0 in let b = w.1 in omega (arith, e, l, h, a, b)

        differs : (p q k i j : ℕ) → (q ≡ k → ⊥) → ((q < p) × (i ≡ q)) ⊎ ((p ≤ i) × (q ≡ suc i)) → ((k < p) × (j ≡ k))
            ⊎ ((p ≤ j) × (k ≡ suc j)) → i ≡ j → ⊥
        differs p q k i j ne (inl a) (inl b) e = ne (sym a.1 ∙ e ∙ b.1)
        differs p q k i j ne (inl a) (inr b) e = absurd
            (let x = a.0 in let y = a.1 in let z = b.0 in omega (arith, x, y, z, e))
        differs p q k i j ne (inr a) (inl b) e = absurd
            (let x = b.0 in let y = b.1 in let z = a.0 in omega (arith, x, y, z, e))
        differs p q k i j ne (inr a) (inr b) e = ne (a.1 ∙ ap suc e ∙ sym b.1)

-- where at no head place of any rule the atom has partners in different rows, it has no instance with the tables
pub rows_are_enough : RowsAreEnough
rows_are_enough rules ts a none = by_places rules (contents ts) a (λ i r v ys zs at guard e within.
    (let w = seats_of r v ts a ys zs guard e within in
    none i r (length ys) at w.2 (ys ++ a ∷ zs) w.0 w.1
    (ap (λ xs. head xs (length ys)) (append_around ys zs a) ∙ around_at (length ys) a no_atom (ys ++ zs)
    (let l = length-append ys zs in omega (arith, l)))))
