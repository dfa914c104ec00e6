use Rattle.std.proofs.Common.{◌-◌}
use Rattle.chr_weights.specs.WeighedPrograms.{rules_in}
use Rattle.chr_join.specs.working.Portions.{HaveJoined}
use Rattle.chr_join.proofs.checking.check_rules.Given as goal

abbrev pub invariant-loop-place : goal.invariant-loop-place
invariant-loop-place g l = record {
  joined : HaveJoined l.lister.coverage (rules_in l.weighed) l.place l.total;
}

abbrev pub decreases-loop-place : goal.decreases-loop-place
decreases-loop-place g l = l.rules - l.place
