use Rattle.std.proofs.Common.{◌≡◌, ◌++◌, List, length}
use Rattle.chr_overlaps.specs.declared.unify.Unified.{Unified}
use Rattle.chr_join.specs.working.Counting.{AreCounts}
use Rattle.chr_join.proofs.counting.Counts.add_all.Given as goal

abbrev pub invariant-loop-unified : goal.invariant-loop-unified
invariant-loop-unified g l = record {
  known : AreCounts l.constants l.self.entries.items;
  rest : (after : List Unified) × (l.fn.guards.items ≡ l.guards.items ++ after);
}

abbrev pub decreases-loop-unified : goal.decreases-loop-unified
decreases-loop-unified g l = length l.guards.items
