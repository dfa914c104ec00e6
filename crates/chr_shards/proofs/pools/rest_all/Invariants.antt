use Rattle.std.proofs.Common.{ℕ, ◌<◌}
use Rattle.chr_base.specs.Rewriting.{IsAtRest}
use Rattle.chr_base.specs.Rules.{Step}
use Rattle.chr_weights.specs.WeighedPrograms.{rules_in}
use Rattle.chr_shards.specs.working.Placed.{store_at}
use Rattle.chr_shards.proofs.pools.rest_all.Given as goal

abbrev pub invariant-loop-pool : goal.invariant-loop-pool
invariant-loop-pool l = (k : ℕ) → k < l.pool-index → IsAtRest (Step (rules_in l.weighed)) (store_at l.pools k)
