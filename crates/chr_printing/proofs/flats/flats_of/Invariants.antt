use Rattle.std.proofs.Common.{◌≡◌, take}
use Rattle.chr_base.specs.Stores.{store_of}
use Rattle.chr_printing.specs.working.Portions.{atoms_at, portion}
use Rattle.chr_printing.specs.working.Printing.{flats_atoms}
use Rattle.chr_printing.proofs.flats.flats_of.Given as goal

abbrev pub invariant-loop-table : goal.invariant-loop-table
invariant-loop-table l =
    store_of (flats_atoms l.flats.items)
    ≡ store_of (portion l.cuts l.fn.place (atoms_at (take l.table-index l.tables)))
