use Rattle.std.proofs.Common.{◌≡◌, ◌++◌}
use Rattle.std.specs.Prelude.{map as each}
use Rattle.chr_ops.specs.working.Covering.{end_range, end_ranges}
use Rattle.chr_ops.proofs.ends.Ends.ranges.Given as goal

abbrev pub invariant-loop-first : goal.invariant-loop-first
invariant-loop-first l = l.ranges.items ++ each end_range l.first-iterator ≡ end_ranges l.self
