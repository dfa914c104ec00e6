-- The tables of a pool as a store.
use Rattle.std.specs.Prelude.{List, map}
use Rattle.chr_base.specs.Stores.{Store}
use Rattle.chr_plans.specs.Grids.{contents}
use Rattle.chr_tables.specs.Contents.{Contents}

-- the atoms that live in the rows of these tables
abbrev pub stored_in : List Contents → Store
stored_in tables = contents (map (λ t. t.rows) tables)
