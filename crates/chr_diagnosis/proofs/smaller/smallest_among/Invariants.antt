use Rattle.std.specs.Prelude.{IfSome}
use Rattle.chr_base.specs.Stores.{size}
use Rattle.chr_weights.specs.WeighedPrograms.{rules_in}
use Rattle.chr_diagnosis.specs.Diagnoses.{IsSmallerFailureOf}
use Rattle.chr_diagnosis.proofs.smaller.smallest_among.Given as goal

abbrev pub invariant-loop-case : goal.invariant-loop-case
invariant-loop-case l = IfSome l.smallest (IsSmallerFailureOf (rules_in l.weighed) l.overlap (size l.store))
