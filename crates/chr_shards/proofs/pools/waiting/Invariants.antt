use Rattle.std.proofs.Common.{◌≤◌, take}
use Rattle.chr_base.specs.Stores.{size, stores_sum}
use Rattle.chr_shards.proofs.pools.waiting.Given as goal

abbrev pub invariant-loop-pool : goal.invariant-loop-pool
invariant-loop-pool l = l.waiting ≤ size (stores_sum (take l.pool-index l.pools))
