use Rattle.std.specs.Prelude.{IfSome}
use Rattle.chr_base.specs.Stores.{size}
use Rattle.chr_weights.specs.WeighedPrograms.{rules_in}
use Rattle.chr_diagnosis.specs.Diagnoses.{IsSmallerFailure}
use Rattle.chr_diagnosis.proofs.smallest.smallest_with.Given as goal

abbrev pub invariant-loop-overlap : goal.invariant-loop-overlap
invariant-loop-overlap l = IfSome l.smallest (IsSmallerFailure (rules_in l.weighed) (size l.store))
