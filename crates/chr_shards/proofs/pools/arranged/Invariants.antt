use Rattle.std.proofs.Common.{◌≡◌, take}
use Rattle.chr_base.specs.Stores.{store_of, stores_sum}
use Rattle.chr_shards.proofs.pools.arranged.Given as goal

abbrev pub invariant-loop-pool : goal.invariant-loop-pool
invariant-loop-pool l = store_of l.atoms.items ≡ stores_sum (take l.pool-index l.pools)
