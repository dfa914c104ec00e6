-- Laws of stores.
use Rattle.std.specs.Prelude.{◌≡◌, ℕ, ◌+◌, ◌-◌, List, [], ◌∷◌, ◌++◌, length}
use Rattle.std.proofs.Common.{refl, sym, ap, ◌∙◌, arith}
use Rattle.chr_base.specs.declared.atom.Atom.{Atom}
use Rattle.chr_base.specs.Atoms.{atom_cmp}
use Rattle.chr_base.specs.FinBag as bag
use Rattle.chr_base.specs.FinBag.{◌⊕◌, ◌⊖◌, total}
use Rattle.chr_base.specs.Stores.{Store, store_of, count, size, weight_of}
use Rattle.chr_base.proofs.Atoms.{atom_total, atom_exact}
use Rattle.chr_base.proofs.FinBags as laws

pub count_plus : (s t : Store) (q : Atom) → count (s ⊕ t) q ≡ count s q + count t q
count_plus s t q = laws.count-⊕ atom_total s t q

pub count_minus : (s t : Store) (q : Atom) → count (s ⊖ t) q ≡ count s q - count t q
count_minus s t q = laws.count-⊖ atom_total s t q

pub count_empty : (q : Atom) → count bag.empty q ≡ 0
count_empty q = laws.count-empty atom_cmp q

-- stores with the same counts are one
pub same_store : (s t : Store) → ((q : Atom) → count s q ≡ count t q) → s ≡ t
same_store s t h = laws.same_bag atom_total atom_exact s t h

pub store_of-append : (xs ys : List Atom) → store_of (xs ++ ys) ≡ store_of xs ⊕ store_of ys
store_of-append xs ys = laws.of_list-append atom_total atom_exact xs ys

pub store_of-items : (s : Store) → store_of (bag.items s) ≡ s
store_of-items s = laws.of_list-items atom_total atom_exact s

pub plus_comm : (s t : Store) → s ⊕ t ≡ t ⊕ s
plus_comm s t = same_store _ _ (λ q. simp count_plus (omega arith))

pub plus_assoc : (s t u : Store) → (s ⊕ t) ⊕ u ≡ s ⊕ (t ⊕ u)
plus_assoc s t u = same_store _ _ (λ q. simp count_plus (omega arith))

pub plus_empty : (s : Store) → s ⊕ bag.empty ≡ s
plus_empty s = same_store _ _ (λ q. simp (count_plus, count_empty) (omega arith))

-- what is within a store and the rest make it up
pub split : (s t : Store) → bag.IsWithin t s → (s ⊖ t) ⊕ t ≡ s
split s t h = same_store _ _ (λ q. (let w = h q in simp (count_plus, count_minus) (omega (arith, w))))

pub within_more : (r s t : Store) → bag.IsWithin r s → bag.IsWithin r (s ⊕ t)
within_more r s t h q = let w = h q in simp count_plus (omega (arith, w))

-- a part may leave and another come in before or after more is there
pub exchange_plus : (s r b t : Store) → bag.IsWithin r s → ((s ⊕ t) ⊖ r) ⊕ b ≡ ((s ⊖ r) ⊕ b) ⊕ t
exchange_plus s r b t h = same_store _ _ (λ q. (let w = h q in simp (count_plus, count_minus) (omega (arith, w))))

pub weight_plus : (w : Atom → ℕ) (s t : Store) → weight_of w (s ⊕ t) ≡ weight_of w s + weight_of w t
weight_plus w s t = laws.sum_over-⊕ atom_total w s t

pub weight_exchange : (w : Atom → ℕ) (s r b : Store) → bag.IsWithin r s → weight_of w ((s ⊖ r) ⊕ b) + weight_of w r
    ≡ weight_of w s + weight_of w b
weight_exchange w s r b h =
    let a = weight_plus w (s ⊖ r) b in
    let e = weight_plus w (s ⊖ r) r in
    let f = ap (weight_of w) (split s r h) in
    omega (arith, a, e, f)

pub weight_store_of : (w : Atom → ℕ) (xs : List Atom) → weight_of w (store_of xs) ≡ total w xs
weight_store_of w xs = laws.sum_over-of_list atom_total w xs

pub length_total : (xs : List Atom) → length xs ≡ total (λ _. 1) xs
length_total [] = refl
length_total (x ∷ xs) = let h = length_total xs in omega (arith, h)

-- how many atoms there are is what they weigh where each weighs 1
pub size_weight : (s : Store) → size s ≡ weight_of (λ _. 1) s
size_weight s = length_total (bag.items s) ∙ sym (laws.sum_over-items (λ _. 1) s)

pub size_plus : (s t : Store) → size (s ⊕ t) ≡ size s + size t
size_plus s t =
    let a = size_weight (s ⊕ t) in
    let b = size_weight s in
    let c = size_weight t in
    let d = weight_plus (λ _. 1) s t in
    omega (arith, a, b, c, d)

pub size_empty : size bag.empty ≡ 0
size_empty = size_weight bag.empty ∙ laws.sum_over-empty atom_cmp (λ _. 1)

pub size_store_of : (xs : List Atom) → size (store_of xs) ≡ length xs
size_store_of xs = size_weight (store_of xs) ∙ weight_store_of (λ _. 1) xs ∙ sym (length_total xs)
