use Rattle.std.proofs.Common.{take, All}
use Rattle.chr_weights.specs.WeighedPrograms.{rules_in}
use Rattle.chr_join.specs.working.Portions.{IsSettled}
use Rattle.chr_join.proofs.settled.few_settled.Given as goal

abbrev pub invariant-loop-overlap : goal.invariant-loop-overlap
invariant-loop-overlap l = All (IsSettled (rules_in l.weighed)) (take l.overlap-index l.overlaps)
