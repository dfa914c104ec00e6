use Rattle.std.proofs.Common.{◌-◌}
use Rattle.chr_weights.specs.WeighedPrograms.{rules_in}
use Rattle.chr_join.specs.declared.coverage.Coverage.TheVariants.{Joint}
use Rattle.chr_join.specs.working.Checking.{HaveFewTypes}
use Rattle.chr_join.specs.working.Counting.{AreCounts}
use Rattle.chr_join.specs.working.Portions.{HaveJoined}
use Rattle.chr_join.proofs.totals.count_joint.Given as goal

abbrev pub invariant-loop-place : goal.invariant-loop-place
invariant-loop-place g l = record {
  joined : HaveJoined Joint (rules_in l.weighed) l.place l.total;
  few : HaveFewTypes l.constants.items l.known.few.items;
  counts : AreCounts l.constants.items l.known.counts.entries.items;
}

abbrev pub decreases-loop-place : goal.decreases-loop-place
decreases-loop-place g l = l.rules - l.place
