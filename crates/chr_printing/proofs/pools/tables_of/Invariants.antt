use Rattle.std.proofs.Common.{◌≡◌, map, take}
use Rattle.chr_base.specs.Stores.{stores_sum}
use Rattle.chr_plans.specs.Grids.{contents}
use Rattle.chr_printing.specs.working.Printing.{rows_at}
use Rattle.chr_printing.proofs.pools.tables_of.Given as goal

abbrev pub invariant-loop-pool : goal.invariant-loop-pool
invariant-loop-pool l = contents (map rows_at l.tables.items) ≡ stores_sum (take l.pool-index l.pools)
