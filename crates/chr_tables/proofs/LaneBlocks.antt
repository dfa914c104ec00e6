-- What fails at each lane of a block fails at its rows.
use Rattle.std.proofs.Common.{◌≡◌, ℕ, ℤ, ◌+◌, ◌-◌, ◌<◌, ◌≤◌, ◌^◌, true, false, List, [], length, get_or, pos, negsuc}
use Rattle.std.proofs.Common.{neg_ℤ, sym, ap, subst, ◌∙◌, arith, w64}
use mir.Val.{SFits}
use lib.Signed.{mag}
use Rattle.std.specs.Prelude.{int_le}
use Rattle.std.specs.Borrow.{Bor}
use Rattle.std.specs.Ordering.{int_cmp}
use Rattle.std.proofs.lemmas.Int.{ints}
use Rattle.std.proofs.lemmas.Bool.{and_parts}
use Rattle.std.proofs.lemmas.List.{get_or-map}
use Rattle.chr_base.specs.Rules.{compares}
use Rattle.chr_base.specs.Values.{is_value}
use Rattle.chr_tables.specs.declared.lanes.test.Test.{Test}
use Rattle.chr_tables.specs.LaneRows.{lent_columns, value_at, against_at, holds, HaveValues}
use Rattle.chr_tables.specs.working.Lanes.{FailsAgainst}

pub fits_lanes : (z : ℤ) → is_value z ≡ true → SFits w64 z
fits_lanes z e = record { sfits = by z e }
  where
    by : (z : ℤ) → is_value z ≡ true → mag z < 2 ^ 63
    by (pos n) e = let high = (and_parts (int_le (neg_ℤ (pos (2 ^ 63))) (pos n)) (int_le (pos n) (pos (2 ^ 63 - 1)))
        e).1 in grind (arith, ints, high)
    by (negsuc n) e = let low = (and_parts (int_le (neg_ℤ (pos (2 ^ 63))) (negsuc n))
        (int_le (negsuc n) (pos (2 ^ 63 - 1))) e).0 in grind (arith, ints, low)

-- the value of a column of the code
pub value_in : (columns : List (Bor (List ℤ))) (column row : ℕ) (d : Bor (List ℤ)) → column < length columns
    → get_or (get_or columns column d).now row (pos 0) ≡ value_at (lent_columns columns) row column
value_in columns column row d h = ap (λ xs. get_or xs row (pos 0)) (sym (get_or-map (λ c. c.now) columns column d [] h))

pub fails_in_block : (columns : List (List ℤ)) (test : Test) (at : ℕ) (left : List ℤ)
    → ((lane : ℕ) → lane < 8 → get_or left lane (pos 0) ≡ value_at columns (at + lane) test.column)
    → ((lane : ℕ) → lane < 8 → FailsAgainst left test.cmp (against_at columns (at + lane) test.against) lane)
    → HaveValues columns → (row : ℕ) → at ≤ row → row < at + 8 → holds columns row test ≡ false
fails_in_block columns test at left ls fails values row from below =
    let lane : ℕ = row - at in
    let here : at + lane ≡ row = omega arith in
    let l : lane < 8 = omega arith in
    let x : get_or left lane (pos 0) ≡ value_at columns row test.column =
    ls lane l ∙ ap (λ k. value_at columns k test.column) here in
    let fits : SFits w64 (get_or left lane (pos 0)) = subst (SFits w64) (sym x)
    (fits_lanes _ (values test.column row)) in
    ap (λ a. compares test.cmp (int_cmp a (against_at columns row test.against))) (sym x)
    ∙ ap (λ k. compares test.cmp (int_cmp (get_or left lane (pos 0)) (against_at columns k test.against))) (sym here)
    ∙ fails lane l fits
