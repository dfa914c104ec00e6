-- What sorting makes of a list of atoms.
use Rattle.std.proofs.Common.{◌≡◌, suc, ◌+◌, Bool, true, List, [], ◌∷◌, ◌++◌, length, refl, sym, ap, subst, ◌∙◌, arith}
use Rattle.std.specs.Prelude.{IsTrue, ◌↔◌, nat_eq}
use Rattle.std.specs.List.Sorted.{IsSorted, IsPermutation}
use Rattle.std.specs.Ordering.{eq_by_cmp}
use Rattle.std.specs.Cmp.{tied_itself}
use Rattle.std.proofs.lemmas.Bool.{eqb-true, and_from, and_parts}
use Rattle.chr_base.specs.declared.atom.Atom.{Atom}
use Rattle.chr_base.specs.Atoms.{atom_cmp}
use Rattle.chr_base.proofs.Atoms.{atom_total, atom_exact, same_is}
use Rattle.chr_base.specs.working.AtomLists.{are_same}
use Rattle.chr_base.specs.Stores.{Store, store_of}
use Rattle.chr_base.proofs.Stores.{store_of-items, store_of-append}
use Rattle.chr_base.specs.FinBag as bag
use Rattle.chr_base.proofs.FinBags as bag_laws
use Rattle.chr_base.proofs.Ordered as ordered
use Rattle.chr_base.specs.FinBag.{◌⊕◌, is_rising, none_below, total}
use Rattle.chr_base.proofs.FinBags.{none_below_further, total_is, is_true, from_true}
use mathlib.Core.Bool.{true≢false}

-- lists of the same atoms in different orders make the same multiset
pub same_multiset : (xs ys : List Atom) → IsPermutation xs ys → store_of ys ≡ store_of xs
same_multiset xs ys p = ordered.same_multiset atom_total atom_exact xs ys p

pub rising_from_sorted : (xs : List Atom) → IsSorted atom_cmp xs → IsTrue (is_rising atom_cmp xs)
rising_from_sorted xs h = ordered.rising_from_sorted atom_total xs h

-- the items of a list in order
pub items_in_order : (xs : List Atom) → IsTrue (is_rising atom_cmp xs) → bag.items (store_of xs) ≡ xs
items_in_order xs h = bag_laws.items-of_list atom_total atom_exact xs (from_true _ h)

-- two lists in order are one where their multisets are
pub one_list : (xs ys : List Atom) → IsTrue (is_rising atom_cmp xs) → IsTrue (is_rising atom_cmp ys)
    → (xs ≡ ys → store_of xs ≡ store_of ys) × (store_of xs ≡ store_of ys → xs ≡ ys)
one_list xs ys h g = (λ e. ap store_of e, λ e. sym (items_in_order xs h) ∙ ap bag.items e ∙ items_in_order ys g)

total_ones : (xs : List Atom) → total (λ y. 1) xs ≡ length xs
total_ones [] = refl
total_ones (y ∷ ys) = let h = total_ones ys in omega (arith, h)

not_empty : (x : Atom) (xs : List Atom) → store_of (x ∷ xs) ≡ bag.empty → length xs + 1 ≡ 0
not_empty x xs h =
    let a = ap (bag.sum_over (λ y. 1)) h in
    let b = bag_laws.sum_over-of_list atom_total (λ y. 1) (x ∷ xs) in
    let c = bag_laws.sum_over-empty atom_cmp (λ y. 1) in
    let d = total_ones xs in
    omega (arith, a, b, c, d)

listed_empty : (xs : List Atom) (b : Bool) → b ≡ nat_eq (length xs) 0 → IsTrue b ↔ (store_of xs ≡ bag.empty)
listed_empty [] b e = (λ _. bag_laws.of_list-none atom_cmp, λ _. e)
listed_empty (x ∷ xs) b e = (
  λ h. absurd (omega (arith, eqb-true (suc (length xs)) 0 (sym e ∙ h))),
  λ h. absurd (omega (arith, not_empty x xs h)),
)

pub empty_or_not : (s : Store) (b : Bool) → b ≡ nat_eq (length (bag.items s)) 0 → IsTrue b ↔ (s ≡ bag.empty)
empty_or_not s b e = subst (λ t. IsTrue b ↔ (t ≡ bag.empty)) (store_of-items s) (listed_empty (bag.items s) b e)

are_same_sound : (xs ys : List Atom) → are_same xs ys ≡ true → xs ≡ ys
are_same_sound [] [] h = refl
are_same_sound [] (y ∷ ys) h = absurd (true≢false (sym h))
are_same_sound (x ∷ xs) [] h = absurd (true≢false (sym h))
are_same_sound (x ∷ xs) (y ∷ ys) h = λ i. same_is x y ((and_parts _ _ h).0) i
    ∷ are_same_sound xs ys ((and_parts (eq_by_cmp atom_cmp x y) _ h).1) i

are_same_itself : (xs : List Atom) → are_same xs xs ≡ true
are_same_itself [] = refl
are_same_itself (x ∷ xs) = and_from _ _ (let e : eq_by_cmp atom_cmp x x ≡ true = rw (tied_itself atom_total x) refl in
    e) (are_same_itself xs)

pub same_or_not : (xs ys us vs : List Atom) (b : Bool) → us ≡ xs → vs ≡ ys → IsTrue (is_rising atom_cmp xs)
    → IsTrue (is_rising atom_cmp ys) → b ≡ are_same us vs → IsTrue b ↔ (store_of xs ≡ store_of ys)
same_or_not xs ys us vs b e f h g k = (
  λ t. ap store_of (sym e ∙ are_same_sound us vs (sym k ∙ t) ∙ f),
  λ s. k ∙ subst (λ ws. are_same us ws ≡ true) (e ∙ (one_list xs ys h g).1 s ∙ sym f) (are_same_itself us),
)

-- more atoms, put in order
pub union_is : (xs ys zs us : List Atom) → us ≡ xs ++ ys → store_of zs ≡ store_of us → store_of zs
    ≡ store_of xs ⊕ store_of ys
union_is xs ys zs us e h = h ∙ ap store_of e ∙ store_of-append xs ys
