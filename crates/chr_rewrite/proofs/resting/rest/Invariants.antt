use Rattle.chr_weights.specs.Weights.{store_rank}
use Rattle.chr_weights.specs.WeighedPrograms.{program_of}
use Rattle.chr_rewrite.specs.Pools.{TookSteps}
use Rattle.chr_rewrite.proofs.resting.rest.Given as goal

abbrev pub invariant-loop-more : goal.invariant-loop-more
invariant-loop-more g l = TookSteps (program_of l.weighed) l.steps (g.P.Pool.contents l.fn.pool)
    (g.P.Pool.contents l.pool)

abbrev pub decreases-loop-more : goal.decreases-loop-more
decreases-loop-more g l = store_rank (program_of l.weighed) (g.P.Pool.contents l.pool)
