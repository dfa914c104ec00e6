use Rattle.std.proofs.Common.{◌≡◌, List, map, take}
use Rattle.chr_base.specs.ProgramTests.{Declaration}
use Rattle.chr_base.specs.Stores.{store_of}
use Rattle.chr_plans.specs.Grids.{contents}
use Rattle.chr_printing.specs.working.Printing.{all_atoms, rows_at, Fit}
use Rattle.chr_printing.proofs.turns.turns_of.Given as goal

abbrev pub invariant-loop-table : goal.invariant-loop-table
invariant-loop-table l =
    (store_of (all_atoms l.turns.items) ≡ contents (map rows_at (take l.table-index l.tables)))
    × ((ds : List Declaration) → Fit ds l.turns.items)
