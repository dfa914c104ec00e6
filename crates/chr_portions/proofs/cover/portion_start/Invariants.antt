use Rattle.std.proofs.Common.{◌≤◌, length}
use Rattle.chr_portions.proofs.cover.portion_start.Given as goal

abbrev pub invariant-loop-count : goal.invariant-loop-count
invariant-loop-count l = record {
  count : l.count ≤ length l.starts.items;
  start : l.start ≤ l.covered;
}

abbrev pub decreases-loop-count : goal.decreases-loop-count
decreases-loop-count l = l.count
