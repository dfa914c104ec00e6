use Rattle.std.proofs.Common.{◌≡◌, ◌++◌, drop}
use Rattle.std.specs.FinMap as map
use Rattle.chr_ops.specs.Summaries.{IsApart}
use Rattle.chr_ops.specs.working.Walks.{covered}
use Rattle.chr_ops.proofs.lacking.covered_in.Given as goal

abbrev pub invariant-loop-range : goal.invariant-loop-range
invariant-loop-range l = record {
  found : l.ops.items ++ covered (drop l.range-index l.ranges) (map.entries l.held)
      ≡ covered l.ranges (map.entries l.held);
  apart : IsApart (drop l.range-index l.ranges);
}
