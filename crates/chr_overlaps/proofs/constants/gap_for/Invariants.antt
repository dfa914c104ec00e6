use Rattle.std.proofs.Common.{ℕ, ◌<◌, ◌<ℤ◌, get_or}
use Rattle.chr_overlaps.proofs.constants.gap_for.Given as goal

abbrev pub invariant-loop-i : goal.invariant-loop-i
invariant-loop-i l = (k : ℕ) → k < l.i → get_or l.found k l.constant <ℤ l.constant
