use Rattle.std.proofs.Common.{take}
use Rattle.chr_weights.specs.WeighedPrograms.{rules_in}
use Rattle.chr_join.specs.Verdicts.{HaveJoinableCasesBy}
use Rattle.chr_join.specs.working.Checking.{AreAhead}
use Rattle.chr_join.proofs.checking.check_portion.Given as goal

abbrev pub invariant-loop-place : goal.invariant-loop-place
invariant-loop-place g l = record {
  joinable : HaveJoinableCasesBy l.lister.coverage (rules_in l.weighed) (take l.place l.overlaps) l.total;
  ahead : AreAhead l.lister.coverage (rules_in l.weighed) l.overlaps l.ahead;
}
