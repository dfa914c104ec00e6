-- Atoms at the end of a list.
use Rattle.std.specs.Prelude.{◌≡◌, ℕ, ◌+◌, ◌<◌, true, List, [], ◌∷◌, ◌++◌, length, take, get_or}
use Rattle.std.proofs.Common.{sym, ap, ◌∙◌, arith, append_assoc}
use Rattle.std.specs.Ordering.{eq_by_cmp}
use Rattle.std.proofs.lemmas.List.{take_more}
use Rattle.chr_base.specs.declared.atom.Atom.{Atom}
use Rattle.chr_base.specs.Atoms.{atom_cmp}
use Rattle.chr_base.specs.FinBag.{◌⊕◌, ◌⊖◌, IsWithin}
use Rattle.chr_base.specs.Stores.{Store, store_of, count}
use Rattle.chr_base.proofs.Atoms.{same_is}
use Rattle.chr_base.proofs.Stores.{same_store, count_plus, count_minus, store_of-append}

-- where the next atom of the end is the next of the other list, one more atom is the same
pub one_more : (xs ys : List Atom) (start i : ℕ) (x y : Atom) → start + length ys ≡ length xs → i < length ys
    → x ≡ get_or xs (start + i) x → y ≡ get_or ys i y → eq_by_cmp atom_cmp x y ≡ true
    → take (start + i) xs ≡ take start xs ++ take i ys → take (start + (i + 1)) xs ≡ take start xs ++ take (i + 1) ys
one_more xs ys start i x y whole l at_x at_y same before =
    let e : x ≡ y = same_is x y same in
    let next : start + (i + 1) ≡ start + i + 1 = omega (arith) in
    ap (λ n. take n xs) next ∙ take_more xs (start + i) x (omega (arith, whole, l))
    ∙ ap (λ z. take (start + i) xs ++ z ∷ []) (sym at_x ∙ e)
    ∙ ap (λ zs. zs ++ y ∷ []) before ∙ append_assoc (take start xs) (take i ys) (y ∷ [])
    ∙ ap (λ zs. take start xs ++ zs) (ap (λ z. take i ys ++ z ∷ []) at_y ∙ sym (take_more ys i y l))

-- ---- a store, and a list of which these atoms are the end

pub end_is_there : (s : Store) (fresh left atoms : List Atom) → fresh ≡ left ++ atoms
    → IsWithin (store_of atoms) (s ⊕ store_of fresh)
end_is_there s fresh left atoms e q =
    let a = ap (λ xs. count (store_of xs) q) e ∙ ap (λ t. count t q) (store_of-append left atoms) in
    let b = count_plus (store_of left) (store_of atoms) q in
    let d = count_plus s (store_of fresh) q in
    omega (arith, a, b, d)

pub without_end : (s : Store) (fresh left atoms : List Atom) → fresh ≡ left ++ atoms
    → s ⊕ store_of left ≡ (s ⊕ store_of fresh) ⊖ store_of atoms
without_end s fresh left atoms e = same_store _ _ (λ q. (
    let a = ap (λ xs. count (store_of xs) q) e ∙ ap (λ t. count t q) (store_of-append left atoms) in
    let b = count_plus (store_of left) (store_of atoms) q in
    let d = count_plus s (store_of fresh) q in
    let f = count_plus s (store_of left) q in
    let g = count_minus (s ⊕ store_of fresh) (store_of atoms) q in
    omega (arith, a, b, d, f, g)))
