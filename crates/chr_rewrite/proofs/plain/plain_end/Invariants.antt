use Rattle.std.proofs.Common.{List}
use Rattle.chr_base.specs.declared.derivation.Step.{Step as StepValue}
use Rattle.chr_base.specs.Programs.{rules_of}
use Rattle.chr_weights.specs.Weights.{store_rank}
use Rattle.chr_weights.specs.WeighedPrograms.{program_of}
use Rattle.chr_rewrite.specs.Derivations.{IsPlainDerivation}
use Rattle.chr_rewrite.proofs.plain.plain_end.Given as goal

abbrev pub invariant-loop-now : goal.invariant-loop-now
invariant-loop-now l = (steps : List StepValue) × IsPlainDerivation (rules_of (program_of l.fn.weighed)) steps l.fn.bag
    l.now

abbrev pub decreases-loop-now : goal.decreases-loop-now
decreases-loop-now l = store_rank (program_of l.fn.weighed) l.now
