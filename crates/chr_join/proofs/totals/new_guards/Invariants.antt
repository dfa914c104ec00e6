use Rattle.std.specs.List.{All}
use Rattle.chr_join.specs.working.Checking.{HaveFewTypes}
use Rattle.chr_join.specs.working.Counting.{HasFewTypes}
use Rattle.chr_join.proofs.totals.new_guards.Given as goal

abbrev pub invariant-loop-overlap : goal.invariant-loop-overlap
invariant-loop-overlap l = record {
  few : HaveFewTypes l.constants l.few.items;
  guards : All (HasFewTypes l.constants) l.guards.items;
}
