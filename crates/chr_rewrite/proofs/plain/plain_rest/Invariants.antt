use Rattle.chr_base.specs.Programs.{rules_of}
use Rattle.chr_weights.specs.Weights.{store_rank}
use Rattle.chr_weights.specs.WeighedPrograms.{program_of}
use Rattle.chr_rewrite.specs.Derivations.{IsPlainDerivation}
use Rattle.chr_rewrite.proofs.plain.plain_rest.Given as goal

abbrev pub invariant-loop-steps : goal.invariant-loop-steps
invariant-loop-steps l = IsPlainDerivation (rules_of (program_of l.fn.weighed)) l.steps.items l.fn.bag l.now

abbrev pub decreases-loop-steps : goal.decreases-loop-steps
decreases-loop-steps l = store_rank (program_of l.fn.weighed) l.now
