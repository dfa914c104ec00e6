use Rattle.std.proofs.Common.{◌≡◌, map, take}
use Rattle.chr_base.specs.FinBag.{◌⊕◌}
use Rattle.chr_plans.specs.Grids.{contents}
use Rattle.chr_printing.specs.working.Printing.{rows_at}
use Rattle.chr_columns.specs.Tables.{stored_in}
use Rattle.chr_printing.proofs.turns.add_all.Given as goal

abbrev pub invariant-loop-table : goal.invariant-loop-table
invariant-loop-table l =
    contents (map rows_at l.list.items)
    ≡ contents (map rows_at l.fn.list.items) ⊕ stored_in (take l.table-index l.tables)
