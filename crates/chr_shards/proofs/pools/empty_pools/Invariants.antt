use Rattle.std.proofs.Common.{◌≡◌, replicate}
use Rattle.chr_base.specs.FinBag as bag
use Rattle.chr_shards.proofs.pools.empty_pools.Given as goal

abbrev pub invariant-loop : goal.invariant-loop
invariant-loop l = l.pools.items ≡ replicate l.counter bag.empty
