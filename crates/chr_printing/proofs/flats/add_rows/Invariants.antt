use Rattle.std.proofs.Common.{◌≡◌, take}
use Rattle.chr_base.specs.FinBag.{◌⊕◌}
use Rattle.chr_base.specs.Stores.{store_of}
use Rattle.chr_plans.specs.Grids.{live_atoms}
use Rattle.chr_printing.specs.working.Portions.{portion}
use Rattle.chr_printing.specs.working.Printing.{flats_atoms}
use Rattle.chr_printing.proofs.flats.add_rows.Given as goal

abbrev pub invariant-loop-row : goal.invariant-loop-row
invariant-loop-row l =
    store_of (flats_atoms l.flats.items)
    ≡ store_of (flats_atoms l.fn.flats.items)
    ⊕ store_of (portion l.cuts l.fn.place (live_atoms (take l.row l.table.rows)))
