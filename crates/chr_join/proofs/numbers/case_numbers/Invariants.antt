use Rattle.std.proofs.Common.{take}
use Rattle.std.specs.List.{AllZip}
use Rattle.chr_weights.specs.WeighedPrograms.{rules_in}
use Rattle.chr_join.specs.Numbers.{HasNumber}
use Rattle.chr_join.specs.working.Checking.{HaveFewTypes}
use Rattle.chr_join.specs.working.Counting.{AreCounts}
use Rattle.chr_join.proofs.numbers.case_numbers.Given as goal

abbrev pub invariant-loop-place : goal.invariant-loop-place
invariant-loop-place g l = record {
  few : HaveFewTypes l.constants.items l.known.few.items;
  counts : AreCounts l.constants.items l.known.counts.entries.items;
  numbered : AllZip (HasNumber (rules_in l.weighed)) (take l.place l.overlaps) l.numbers.items;
}
