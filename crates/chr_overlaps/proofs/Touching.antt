-- Which matchings have a removed head among the matched ones, by the entries of kept and of removed heads.
use Rattle.std.specs.Prelude.{◌≡◌, ℕ, zero, suc, true, false, ◌||◌, nat_lt, List, [], ◌∷◌}
use Rattle.std.specs.List.{list_any}
use Rattle.std.proofs.Common.{refl, sym, ap, ◌∙◌, arith, take, drop}
use Rattle.std.proofs.Math.Bool.{or_assoc}
use Rattle.std.proofs.lemmas.Bool.Decides.{nat_tests}
use Rattle.chr_confluence.specs.Matchings.{matches_removed}

pub touches_by_parts : (n k : ℕ) (m : List ℕ) → matches_removed n k m
    ≡ (list_any (nat_lt k) (take n m) || list_any (nat_lt 0) (drop n m))
touches_by_parts zero k [] = refl
touches_by_parts (suc n) k [] = refl
touches_by_parts zero k (zero ∷ m) = touches_by_parts zero k m
touches_by_parts zero k (suc p ∷ m) = let e : nat_lt 0 (suc p) ≡ true = grind (arith, nat_tests) in
    ap (λ b. b || list_any (nat_lt 0) m) (sym e)
touches_by_parts (suc n) k (zero ∷ m) =
    let e : nat_lt k 0 ≡ false = grind (arith, nat_tests) in
    touches_by_parts n k m ∙ ap (λ b. (b || list_any (nat_lt k) (take n m)) || list_any (nat_lt 0) (drop n m)) (sym e)
touches_by_parts (suc n) k (suc p ∷ m) =
    ap (λ b. nat_lt k (suc p) || b) (touches_by_parts n k m)
    ∙ sym (or_assoc (nat_lt k (suc p)) (list_any (nat_lt k) (take n m)) (list_any (nat_lt 0) (drop n m)))
