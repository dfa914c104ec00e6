use Rattle.std.proofs.Common.{take}
use Rattle.chr_base.specs.Programs.{rules_of}
use Rattle.chr_weights.specs.WeighedPrograms.{program_of}
use Rattle.chr_rewrite.specs.Derivations.{IsDerivation}
use Rattle.chr_rewrite.proofs.replay.take_steps.Given as goal

abbrev pub invariant-loop-i : goal.invariant-loop-i
invariant-loop-i g l = IsDerivation (rules_of (program_of l.fn.weighed)) (take l.i l.fn.steps)
    (g.P.Pool.contents l.fn.pool) (g.P.Pool.contents l.pool)
