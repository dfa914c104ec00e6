-- What holds of each atom of a store.
use Rattle.std.specs.Prelude.{◌≡◌, ℕ, zero, suc, ◌⊎◌, ◌+◌, ◌<◌, Bool, true, cond, List, [], ◌∷◌}
use Rattle.std.specs.List.{list_all}
use Rattle.std.specs.declared.cmp.Ordering.TheVariants as order
use Rattle.std.specs.Ordering.{is_eq, eq_by_cmp}
use Rattle.std.specs.Cmp.{tied_itself}
use Rattle.std.proofs.Common.{refl, arith, inl, inr}
use Rattle.std.proofs.lemmas.Bool.{and_from, and_parts}
use Rattle.chr_base.specs.declared.atom.Atom.{Atom}
use Rattle.chr_base.specs.Atoms.{atom_cmp}
use Rattle.chr_base.proofs.Atoms.{atom_total, atom_exact}
use Rattle.chr_base.specs.FinBag as bag
use Rattle.chr_base.proofs.FinBags as bag_laws
use Rattle.chr_base.specs.FinBag.{count_in, IsWithin, ◌⊕◌, ◌⊖◌}
use Rattle.chr_base.specs.Stores.{Store, store_of, count}
use Rattle.chr_base.proofs.Stores.{count_plus, count_minus, count_empty}
use Rattle.chr_base.specs.Values.{Each}

in_list : (p : Atom → Bool) (xs : List Atom) → list_all p xs ≡ true → (q : Atom) → 0 < count_in atom_cmp q xs
    → p q ≡ true
in_list p [] h q g = absurd (omega arith)
in_list p (x ∷ xs) h q g =
    elim (atom_cmp q x) as (λ r. atom_cmp q x ≡ r → 0 < cond (is_eq r) 1 0 + count_in atom_cmp q xs → p q ≡ true) [
      | order.Less ↦ λ e g. in_list p xs ((and_parts _ _ h).1) q (omega (arith, g))
      | order.Equal ↦ λ e g. rw (atom_exact q x e) ((and_parts _ _ h).0)
      | order.Greater ↦ λ e g. in_list p xs ((and_parts _ _ h).1) q (omega (arith, g))
    ] refl g

pub each_of_list : (p : Atom → Bool) (xs : List Atom) → list_all p xs ≡ true → Each p (store_of xs)
each_of_list p xs h q g = let e = bag_laws.count-of_list atom_total xs q in in_list p xs h q (omega (arith, e, g))

listed_each : (p : Atom → Bool) (xs : List Atom) → ((q : Atom) → 0 < count_in atom_cmp q xs → p q ≡ true)
    → list_all p xs ≡ true
listed_each p [] h = refl
listed_each p (x ∷ xs) h =
    let one : cond (eq_by_cmp atom_cmp x x) 1 0 + count_in atom_cmp x xs ≡ 1 + count_in atom_cmp x xs =
    rw (tied_itself atom_total x) refl in
    and_from _ _ (h x (omega (arith, one))) (listed_each p xs (λ q g. h q (omega (arith, g))))

pub list_of_each : (p : Atom → Bool) (xs : List Atom) → Each p (store_of xs) → list_all p xs ≡ true
list_of_each p xs h = listed_each p xs (λ q g. (let e = bag_laws.count-of_list atom_total xs q in
    h q (omega (arith, e, g))))

pub each_empty : (p : Atom → Bool) → Each p bag.empty
each_empty p q g = let e = count_empty q in absurd (omega (arith, e, g))

pub each_within : (p : Atom → Bool) (r s : Store) → IsWithin r s → Each p s → Each p r
each_within p r s w h q g = let l = w q in h q (omega (arith, l, g))

some_left : (a b : ℕ) → 0 < a + b → (0 < a) ⊎ (0 < b)
some_left zero b h = inr (omega (arith, h))
some_left (suc a) b h = inl (omega arith)

pub each_plus : (p : Atom → Bool) (s t : Store) → Each p s → Each p t → Each p (s ⊕ t)
each_plus p s t h k q g =
    let e = count_plus s t q in
    elim (some_left (count s q) (count t q) (omega (arith, e, g))) as (λ _. p q ≡ true)
    [ inl l ↦ h q l | inr l ↦ k q l ]

pub each_minus : (p : Atom → Bool) (s t : Store) → Each p s → Each p (s ⊖ t)
each_minus p s t h q g = let e = count_minus s t q in h q (omega (arith, e, g))
