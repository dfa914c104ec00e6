-- Lists of atoms in the order in which they are printed.
use Rattle.std.proofs.Common.{◌≡◌, ℕ, ◌+◌, Bool, true, false, cond, List, [], ◌∷◌, refl, sym, ap, subst, ◌∙◌}
use Rattle.std.specs.Prelude.{IsTrue}
use Rattle.std.specs.List.{flat_map}
use Rattle.std.specs.List.Sorted.{IsPermutation}
use Rattle.std.specs.declared.cmp.Ordering.{Ordering}
use Rattle.std.specs.declared.cmp.Ordering.TheVariants as order
use Rattle.std.specs.Ordering.{eq_by_cmp, is_eq}
use Rattle.std.specs.Cmp.{tied_itself}
use Rattle.std.proofs.lemmas.List.Sorted.{sum_by-IsPermutation}
use Rattle.chr_base.specs.declared.atom.Atom.{Atom}
use Rattle.chr_base.specs.Atoms.{atom_cmp}
use Rattle.chr_base.specs.FinBag as bag
use Rattle.chr_base.specs.FinBag.{is_rising, count_in, total}
use Rattle.chr_base.specs.ProgramTests.{Declaration}
use Rattle.chr_base.specs.Stores.{Store, store_of}
use Rattle.chr_base.specs.Texts.{print_cmp, in_print_order}
use Rattle.chr_base.proofs.Atoms.{atom_total, atom_exact}
use Rattle.chr_base.proofs.FinBags as bag_laws
use Rattle.chr_base.proofs.FinBags.{from_true, total_is, total-flat}
use Rattle.chr_base.proofs.Printing.{print_total, print_exact}
use Rattle.chr_base.proofs.Stores.{store_of-items}

-- lists of atoms one after another, in another turn
pub flat_same : {X : Type 0} (f : X → List Atom) (rs ss : List X) → IsPermutation rs ss → store_of (flat_map f ss)
    ≡ store_of (flat_map f rs)
flat_same f rs ss p = bag_laws.same_bag atom_total atom_exact _ _ (λ q.
    let g : Atom → ℕ = λ x. cond (eq_by_cmp atom_cmp q x) 1 0 in
    bag_laws.count-of_list atom_total (flat_map f ss) q
    ∙ total-flat g f ss
    ∙ total_is (λ r. total g (f r)) ss
    ∙ sum_by-IsPermutation (λ r. total g (f r)) rs ss p
    ∙ sym (total_is (λ r. total g (f r)) rs)
    ∙ sym (total-flat g f rs)
    ∙ sym (bag_laws.count-of_list atom_total (flat_map f rs) q))

tied : (o : Ordering) → is_eq o ≡ true → o ≡ order.Equal
tied order.Less h = absurd (cc)
tied order.Equal h = refl
tied order.Greater h = absurd (cc)

-- the orders have the same ties
same_ties : (ds : List Declaration) (a b : Atom) → eq_by_cmp (print_cmp ds) a b ≡ eq_by_cmp atom_cmp a b
same_ties ds a b = by (eq_by_cmp (print_cmp ds) a b) (eq_by_cmp atom_cmp a b) refl refl
  where
    by : (p q : Bool) → eq_by_cmp (print_cmp ds) a b ≡ p → eq_by_cmp atom_cmp a b ≡ q → p ≡ q
    by true true h g = refl
    by false false h g = refl
    by true false h g =
        let e : a ≡ b = print_exact ds a b (tied _ h) in
        absurd (let z : eq_by_cmp atom_cmp b b ≡ false = subst (λ x. eq_by_cmp atom_cmp x b ≡ false) e g in
        let y : eq_by_cmp atom_cmp b b ≡ true = rw (tied_itself atom_total b) refl in cc)
    by false true h g =
        let e : a ≡ b = atom_exact a b (tied _ g) in
        absurd (let z : eq_by_cmp (print_cmp ds) b b ≡ false = subst (λ x. eq_by_cmp (print_cmp ds) x b ≡ false) e h in
        let y : eq_by_cmp (print_cmp ds) b b ≡ true = rw (tied_itself (print_total ds) b) refl in cc)

same_counts : (ds : List Declaration) (q : Atom) (xs : List Atom) → count_in (print_cmp ds) q xs
    ≡ count_in atom_cmp q xs
same_counts ds q [] = refl
same_counts ds q (x ∷ xs) = λ i. cond (same_ties ds q x i) 1 0 + same_counts ds q xs i

-- a store's atoms that never fall as they are printed are the store in that order
pub in_print : (ds : List Declaration) (xs : List Atom) (s : Store) → IsTrue (is_rising (print_cmp ds) xs)
    → store_of xs ≡ s → xs ≡ in_print_order ds s
in_print ds xs s rises e =
    let same : store_of xs ≡ store_of (bag.items s) = e ∙ sym (store_of-items s) in
    sym (bag_laws.items-of_list (print_total ds) (print_exact ds) xs (from_true _ rises))
    ∙ ap bag.items (bag_laws.same_bag (print_total ds) (print_exact ds) _ _ (λ q.
    bag_laws.count-of_list (print_total ds) xs q
    ∙ same_counts ds q xs
    ∙ sym (bag_laws.count-of_list atom_total xs q)
    ∙ ap (λ t. bag.count t q) same
    ∙ bag_laws.count-of_list atom_total (bag.items s) q
    ∙ sym (same_counts ds q (bag.items s))
    ∙ sym (bag_laws.count-of_list (print_total ds) (bag.items s) q)))
