use Rattle.std.proofs.Common.{take}
use Rattle.chr_weights.specs.WeighedPrograms.{rules_in}
use Rattle.chr_join.specs.declared.coverage.Coverage.TheVariants.{Joint}
use Rattle.chr_join.specs.Verdicts.{HaveJoinableCasesBy}
use Rattle.chr_join.specs.working.Checking.{HaveFewTypes}
use Rattle.chr_join.specs.working.Counting.{AreCounts}
use Rattle.chr_join.proofs.totals.count_portion.Given as goal

abbrev pub invariant-loop-place : goal.invariant-loop-place
invariant-loop-place g l = record {
  joinable : HaveJoinableCasesBy Joint (rules_in l.weighed) (take l.place l.overlaps) l.total;
  few : HaveFewTypes l.constants l.known.few.items;
  counts : AreCounts l.constants l.known.counts.entries.items;
}
