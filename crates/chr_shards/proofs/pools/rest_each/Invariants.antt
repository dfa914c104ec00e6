use Rattle.std.proofs.Common.{ℕ, ◌<◌}
use Rattle.chr_base.specs.Rewriting.{IsAtRest}
use Rattle.chr_base.specs.Rules.{Step}
use Rattle.chr_weights.specs.WeighedPrograms.{program_of, rules_in}
use Rattle.chr_rewrite.specs.Pools.{TookSteps}
use Rattle.chr_shards.specs.working.Placed.{store_at, ReachEach}
use Rattle.chr_base.specs.Stores.{stores_sum}
use Rattle.chr_shards.proofs.pools.rest_each.Given as goal

abbrev pub invariant-loop-place : goal.invariant-loop-place
invariant-loop-place l =
    ReachEach (rules_in l.weighed) l.fn.pools.items l.pools.items
    × TookSteps (program_of l.weighed) l.steps (stores_sum l.fn.pools.items) (stores_sum l.pools.items)
    × ((k : ℕ) → k < l.place → IsAtRest (Step (rules_in l.weighed)) (store_at l.pools.items k))
