-- The stores of pools, one after another.
use Rattle.std.specs.Prelude.{◌≡◌, ℕ, zero, suc, ◌+◌, ◌<◌, List, [], ◌∷◌, length, get_or, take}
use Rattle.std.proofs.Common.{sym, ap, subst, ◌∙◌, arith}
use Rattle.chr_base.specs.FinBag as bag
use Rattle.chr_base.specs.FinBag.{◌⊕◌}
use Rattle.chr_base.specs.Stores.{Store, count, stores_sum}
use Rattle.chr_base.proofs.Stores.{count_plus, same_store, plus_empty, plus_comm}

-- one store more
sum_next : (ss : List Store) (k : ℕ) → k < length ss → stores_sum (take (suc k) ss)
    ≡ stores_sum (take k ss) ⊕ get_or ss k bag.empty
sum_next [] k l = absurd (omega (arith, l))
sum_next (s ∷ ss) zero l = plus_empty s ∙ sym (plus_comm bag.empty s ∙ plus_empty s)
sum_next (s ∷ ss) (suc k) l = same_store _ _ (λ q. (
    let a = count_plus s (stores_sum (take (suc k) ss)) q in
    let b = count_plus s (stores_sum (take k ss)) q in
    let c = count_plus (s ⊕ stores_sum (take k ss)) (get_or ss k bag.empty) q in
    let d = count_plus (stores_sum (take k ss)) (get_or ss k bag.empty) q in
    let e : count (stores_sum (take (suc k) ss)) q ≡ count (stores_sum (take k ss) ⊕ get_or ss k bag.empty) q =
    ap (λ t. count t q) (sum_next ss k (omega (arith, l))) in
    omega (arith, a, b, c, d, e)))

pub sum_more : (ss : List Store) (k : ℕ) → k < length ss → stores_sum (take (k + 1) ss)
    ≡ stores_sum (take k ss) ⊕ get_or ss k bag.empty
sum_more ss k l =
    subst (λ n. stores_sum (take n ss) ≡ stores_sum (take k ss) ⊕ get_or ss k bag.empty)
    (let e : suc k ≡ k + 1 = omega arith in e) (sum_next ss k l)
