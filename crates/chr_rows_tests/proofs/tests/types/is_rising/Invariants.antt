use Rattle.std.proofs.Common.{ℕ, pos, ◌+◌, ◌<◌, ◌<ℤ◌}
use Rattle.std.proofs.Math.ListN.{get_or}
use Rattle.chr_rows_tests.proofs.tests.types.is_rising.Given as goal

abbrev pub invariant-loop-i : goal.invariant-loop-i
invariant-loop-i l = (k : ℕ) → k + 1 < l.i → get_or l.numbers k (pos 0) <ℤ get_or l.numbers (k + 1) (pos 0)
