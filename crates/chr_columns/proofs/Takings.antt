-- Atoms that are taken out by their rows.
use Rattle.std.proofs.Common.{◌≡◌, ℕ, ◌<◌, List, [], ◌∷◌, length, get_or, sym, ap, ◌∙◌, arith}
use Rattle.std.specs.List.{swap_remove}
use Rattle.std.proofs.lemmas.List.Sorted.{IsPermutation-swap_remove}
use Rattle.std.proofs.lemmas.List.{get_or_default}
use Rattle.chr_base.specs.declared.atom.Atom.{Atom}
use Rattle.chr_base.specs.FinBag.{◌⊕◌, ◌⊖◌}
use Rattle.chr_base.specs.Stores.{Store, store_of, count}
use Rattle.chr_base.proofs.Sorting.{same_multiset}
use Rattle.chr_base.proofs.Stores.{same_store, count_plus, count_minus, plus_comm, plus_assoc, store_of-append}
use Rattle.chr_plans.specs.Actives.{one}

-- an atom left its place, and the last came there
pub left_place : (xs ys : List Atom) (i : ℕ) (a x : Atom) → i < length xs → a ≡ get_or xs i a → x ≡ get_or xs i x
    → ys ≡ swap_remove xs i x
    → store_of ys ⊕ one a ≡ store_of xs
left_place xs ys i a x l e f g =
    let same : x ≡ a = f ∙ get_or_default xs i x a l ∙ sym e in
    plus_comm (store_of ys) (one a) ∙ ap (λ s. one a ⊕ s) (ap store_of (g ∙ ap (swap_remove xs i) same))
    ∙ sym (store_of-append (a ∷ []) (swap_remove xs i a))
    ∙ same_multiset xs (a ∷ swap_remove xs i a) (IsPermutation-swap_remove xs i a l e)

-- one atom left one of two stores together
pub left_rest : (s t f : Store) (a : Atom) → t ⊕ one a ≡ s → (t ⊕ f) ⊕ one a ≡ s ⊕ f
left_rest s t f a e = same_store _ _ (λ q. (
    let x = ap (λ r. count r q) e in
    let b = count_plus t (one a) q in
    let d = count_plus t f q in
    let g = count_plus s f q in
    let h = count_plus (t ⊕ f) (one a) q in
    omega (arith, x, b, d, g, h)))

pub left_fresh : (s f g : Store) (a : Atom) → g ⊕ one a ≡ f → (s ⊕ g) ⊕ one a ≡ s ⊕ f
left_fresh s f g a e = plus_assoc s g (one a) ∙ ap (λ x. s ⊕ x) e

pub less_one : (s t : Store) (a : Atom) → t ⊕ one a ≡ s → t ≡ s ⊖ one a
less_one s t a e = same_store _ _ (λ q. (
    let x = ap (λ r. count r q) e in
    let b = count_plus t (one a) q in
    let d = count_minus s (one a) q in
    omega (arith, x, b, d)))
