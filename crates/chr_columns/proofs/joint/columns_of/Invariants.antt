use Rattle.std.proofs.Common.{◌≤◌, length}
use Rattle.chr_columns.proofs.joint.columns_of.Given as goal

abbrev pub invariant-loop-number : goal.invariant-loop-number
invariant-loop-number l = length l.columns.items ≤ l.number
