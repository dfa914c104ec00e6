use Rattle.std.proofs.Common.{◌≡◌, length, drop}
use Rattle.chr_base.specs.FinBag.{◌⊖◌}
use Rattle.chr_base.specs.Stores.{store_of, stores_sum}
use Rattle.chr_shards.specs.working.Placed.{ArePlaced}
use Rattle.chr_shards.proofs.pools.remove_each.Given as goal

abbrev pub invariant-loop-i : goal.invariant-loop-i
invariant-loop-i l =
    ArePlaced l.placing l.pools.items × (length l.pools.items ≡ length l.fn.pools.items)
    × (stores_sum l.pools.items ≡ stores_sum l.fn.pools.items ⊖ store_of (drop l.i l.atoms))
