-- Sums of stores, by how often an atom stands in them.
use Rattle.std.specs.Prelude.{◌≡◌, ℕ, zero, suc, ◌+◌, ◌-◌, ◌<◌, ◌≤◌, List, [], ◌∷◌, ◌++◌, length, get_or, set}
use Rattle.std.specs.Prelude.{replicate, take}
use Rattle.std.specs.Prelude.{drop}
use Rattle.std.proofs.Common.{refl, sym, ap, subst, ◌∙◌, arith, inl, inr, drop-cons, take-suc}
use Rattle.std.proofs.lemmas.Bool.{cases_lt}
use Rattle.std.proofs.lemmas.List.{get_or_default, drop_all, take_all, append-nil}
use Rattle.chr_base.specs.Atoms.{atom_cmp}
use Rattle.chr_base.proofs.FinBags.{of_list-none}
use Rattle.chr_base.specs.declared.atom.Atom.{Atom}
use Rattle.chr_base.specs.FinBag as bag
use Rattle.chr_base.specs.FinBag.{◌⊕◌, ◌⊖◌}
use Rattle.chr_base.specs.Stores.{Store, store_of, count, size, stores_sum}
use Rattle.chr_base.proofs.Stores.{count_plus, count_minus, count_empty, same_store, plus_empty, plus_comm, plus_assoc}
use Rattle.chr_base.proofs.Stores.{size_plus, store_of-append}
use Rattle.chr_printing.proofs.Pooled.{sum_more}
use Rattle.chr_shards.specs.working.Placed.{store_at}

-- what no store has the sum has not
pub none_here : (ss : List Store) (q : Atom) → ((k : ℕ) → count (store_at ss k) q ≡ 0) → count (stores_sum ss) q ≡ 0
none_here [] q none = count_empty q
none_here (s ∷ ss) q none =
    let a = count_plus s (stores_sum ss) q in
    let b = none 0 in
    let c = none_here ss q (λ k. none (suc k)) in
    omega (arith, a, b, c)

-- what one store has alone the sum has as often
pub only_here : (ss : List Store) (p : ℕ) (q : Atom) → ((k : ℕ) → 0 < count (store_at ss k) q → k ≡ p)
    → count (stores_sum ss) q ≡ count (store_at ss p) q
only_here [] p q only = refl
only_here (s ∷ ss) zero q only =
    let a = count_plus s (stores_sum ss) q in
    let b = none_here ss q (λ k. (elim (cases_lt 0 (count (store_at ss k) q)) as (λ _. count (store_at ss k) q ≡ 0) [
      | inl some ↦ (let e = only (suc k) some in absurd (omega (arith, e)))
      | inr none ↦ omega (arith, none)
    ])) in
    omega (arith, a, b)
only_here (s ∷ ss) (suc p) q only =
    let a = count_plus s (stores_sum ss) q in
    let b : count s q ≡ 0 = elim (cases_lt 0 (count s q)) as (λ _. count s q ≡ 0) [
      | inl some ↦ (let e = only 0 some in absurd (omega (arith, e)))
      | inr none ↦ omega (arith, none)
    ] in
    let c = only_here ss p q (λ k l. (let e = only (suc k) l in omega (arith, e))) in
    omega (arith, a, b, c)

-- a store in the place of another
pub count_set : (ss : List Store) (k : ℕ) (t : Store) (q : Atom) → k < length ss
    → count (stores_sum (set ss k t)) q + count (store_at ss k) q ≡ count (stores_sum ss) q + count t q
count_set [] k t q l = absurd (omega (arith, l))
count_set (s ∷ ss) zero t q l =
    let a = count_plus s (stores_sum ss) q in let b = count_plus t (stores_sum ss) q in omega (arith, a, b)
count_set (s ∷ ss) (suc k) t q l =
    let a = count_plus s (stores_sum ss) q in
    let b = count_plus s (stores_sum (set ss k t)) q in
    let c = count_set ss k t q (omega (arith, l)) in
    omega (arith, a, b, c)

-- a sum is one of its stores and the others
pub apart_from : (ss : List Store) (k : ℕ) → k < length ss
    → stores_sum ss ≡ store_at ss k ⊕ stores_sum (set ss k bag.empty)
apart_from ss k l = same_store _ _ (λ q. (
    let a = count_set ss k bag.empty q l in
    let b = count_empty q in
    let c = count_plus (store_at ss k) (stores_sum (set ss k bag.empty)) q in
    omega (arith, a, b, c)))

pub put_with : (ss : List Store) (k : ℕ) (t : Store) → k < length ss
    → stores_sum (set ss k t) ≡ t ⊕ stores_sum (set ss k bag.empty)
put_with ss k t l = same_store _ _ (λ q. (
    let a = count_set ss k bag.empty q l in
    let b = count_empty q in
    let c = count_plus t (stores_sum (set ss k bag.empty)) q in
    let d = count_set ss k t q l in
    omega (arith, a, b, c, d)))

-- the sum of one store is that store
pub one_store : (s : Store) → stores_sum (s ∷ []) ≡ s
one_store s = plus_empty s

pub empty_stores : (n : ℕ) → stores_sum (replicate n bag.empty) ≡ bag.empty
empty_stores zero = refl
empty_stores (suc n) = plus_comm bag.empty (stores_sum (replicate n bag.empty))
    ∙ plus_empty (stores_sum (replicate n bag.empty)) ∙ empty_stores n

pub empty_at : (n k : ℕ) (q : Atom) → count (store_at (replicate n bag.empty) k) q ≡ 0
empty_at zero k q = count_empty q
empty_at (suc n) zero q = count_empty q
empty_at (suc n) (suc k) q = empty_at n k q

-- the only store
pub one_sum : (ss : List Store) (s : Store) → 1 ≤ length ss → length ss < 2 → s ≡ get_or ss 0 s → stores_sum ss ≡ s
one_sum [] s some few here = absurd (omega (arith, some))
one_sum (t ∷ []) s some few here = plus_empty t ∙ sym here
one_sum (t ∷ u ∷ ss) s some few here = absurd (omega (arith, few))

-- the atoms of one store more
pub added_more : (ss : List Store) (k : ℕ) (s : Store) (xs zs : List Atom) → k < length ss → s ≡ get_or ss k s
    → store_of xs ≡ stores_sum (take k ss) → store_of zs ≡ store_of xs ⊕ s
    → store_of zs ≡ stores_sum (take (k + 1) ss)
added_more ss k s xs zs within here before both =
    both ∙ (λ i. before i ⊕ (here ∙ sym (get_or_default ss k bag.empty s within)) i) ∙ sym (sum_more ss k within)

-- atoms that are read from one store more
pub read_more : (ss : List Store) (k : ℕ) (s : Store) (xs ys zs : List Atom) → k < length ss → s ≡ get_or ss k s
    → store_of xs ≡ stores_sum (take k ss) → store_of ys ≡ s → zs ≡ xs ++ ys
    → store_of zs ≡ stores_sum (take (k + 1) ss)
read_more ss k s xs ys zs within here before more both =
    added_more ss k s xs zs within here before
    (ap store_of both ∙ store_of-append xs ys ∙ ap (λ t. store_of xs ⊕ t) more)

pub no_atoms : (xs : List Atom) → xs ≡ [] → store_of xs ≡ bag.empty
no_atoms xs none = ap store_of none ∙ of_list-none atom_cmp

-- fresh atoms of one store more
pub waiting_more : (ss : List Store) (k : ℕ) (s : Store) (n m w : ℕ) → k < length ss → s ≡ get_or ss k s
    → n ≤ size (stores_sum (take k ss)) → m ≤ size s → w ≤ n + m → w ≤ size (stores_sum (take (k + 1) ss))
waiting_more ss k s n m w within here before more both =
    let at : store_at ss k ≡ s = get_or_default ss k bag.empty s within ∙ sym here in
    let a : size (stores_sum (take (k + 1) ss)) ≡ size (stores_sum (take k ss) ⊕ store_at ss k) =
    ap size (sum_more ss k within) in
    let b = size_plus (stores_sum (take k ss)) (store_at ss k) in
    let c : size (store_at ss k) ≡ size s = ap size at in
    omega (arith, a, b, c, before, more, both)

-- atoms that are taken out from the last one on
pub none_taken_out : (s : Store) (xs : List Atom) → s ≡ s ⊖ store_of (drop (length xs) xs)
none_taken_out s xs = same_store _ _ (λ q. (
    let a = count_minus s (store_of (drop (length xs) xs)) q in
    let b : count (store_of (drop (length xs) xs)) q ≡ count bag.empty q =
    ap (λ t. count t q) (no_atoms _ (drop_all (length xs) xs (omega arith))) in
    let c = count_empty q in
    omega (arith, a, b, c)))

pub one_more_out : (s t u : Store) (xs : List Atom) (i : ℕ) (a : Atom) → 0 < i → i ≤ length xs
    → a ≡ get_or xs (i - 1) a → t ≡ s ⊖ store_of (drop i xs) → u ≡ t ⊖ store_of (a ∷ [])
    → u ≡ s ⊖ store_of (drop (i - 1) xs)
one_more_out s t u xs i a some within here before left = same_store _ _ (λ q. (
    let cut : drop (i - 1) xs ≡ a ∷ drop i xs =
    drop-cons xs (i - 1) a (omega (arith, some, within))
    ∙ (λ j. sym here j ∷ drop ((let e : suc (i - 1) ≡ i = omega (arith, some) in e) j) xs) in
    let b : count u q ≡ count (t ⊖ store_of (a ∷ [])) q = ap (λ x. count x q) left in
    let c = count_minus t (store_of (a ∷ [])) q in
    let d : count t q ≡ count (s ⊖ store_of (drop i xs)) q = ap (λ x. count x q) before in
    let e = count_minus s (store_of (drop i xs)) q in
    let f = count_minus s (store_of (drop (i - 1) xs)) q in
    let g : count (store_of (drop (i - 1) xs)) q ≡ count (store_of (a ∷ drop i xs)) q =
    ap (λ x. count (store_of x) q) cut in
    let h : count (store_of (a ∷ drop i xs)) q ≡ count (store_of (a ∷ []) ⊕ store_of (drop i xs)) q =
    ap (λ x. count x q) (store_of-append (a ∷ []) (drop i xs)) in
    let k = count_plus (store_of (a ∷ [])) (store_of (drop i xs)) q in
    omega (arith, b, c, d, e, f, g, h, k)))

-- atoms that are put in one after the other
pub none_put_in : (s : Store) (xs : List Atom) → s ≡ s ⊕ store_of (take 0 xs)
none_put_in s xs = sym (ap (λ t. s ⊕ t) (no_atoms [] refl) ∙ plus_empty s)

pub one_more_in : (s t u : Store) (xs : List Atom) (i : ℕ) (a : Atom) → i < length xs → a ≡ get_or xs i a
    → t ≡ s ⊕ store_of (take i xs) → u ≡ t ⊕ store_of (a ∷ []) → u ≡ s ⊕ store_of (take (i + 1) xs)
one_more_in s t u xs i a within here before put =
    put ∙ ap (λ x. x ⊕ store_of (a ∷ [])) before
    ∙ plus_assoc s (store_of (take i xs)) (store_of (a ∷ []))
    ∙ ap (λ x. s ⊕ x) (sym (store_of-append (take i xs) (a ∷ [])))
    ∙ ap (λ x. s ⊕ store_of x) (sym cut)
  where
    cut : take (i + 1) xs ≡ take i xs ++ a ∷ []
    cut = subst (λ n. take n xs ≡ take i xs ++ a ∷ []) (let e : suc i ≡ i + 1 = omega arith in e)
        (take-suc xs i a within ∙ ap (λ x. take i xs ++ x ∷ []) (sym here))

-- atoms that were put in and are taken out again leave the store as it was
pub in_and_out : (s t u : Store) (xs : List Atom) → t ≡ s ⊕ store_of xs → u ≡ t ⊖ store_of xs → u ≡ s
in_and_out s t u xs put left = same_store _ _ (λ q. (
    let a : count u q ≡ count (t ⊖ store_of xs) q = ap (λ x. count x q) left in
    let b = count_minus t (store_of xs) q in
    let c : count t q ≡ count (s ⊕ store_of xs) q = ap (λ x. count x q) put in
    let d = count_plus s (store_of xs) q in
    omega (arith, a, b, c, d)))

-- a list that is written back whole
pub written_back : {X : Type 0} (xs ys : List X) (n : ℕ) → n ≡ length xs → length ys ≡ length xs
    → take n (ys ++ drop (length ys) xs) ≡ ys
written_back xs ys n is len =
    (λ i. take n (ys ++ drop_all (length ys) xs (omega (arith, len)) i)) ∙ ap (take n) (append-nil ys)
    ∙ take_all n ys (omega (arith, is, len))
