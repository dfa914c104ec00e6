use Rattle.std.proofs.Common.{◌≡◌, All, take}
use Rattle.chr_base.specs.Programs.{declarations}
use Rattle.chr_printing.specs.working.Printing.{flats_atoms, IsWrittenOut}
use Rattle.chr_printing.proofs.writing.write_each.Given as goal

abbrev pub invariant-loop-place : goal.invariant-loop-place
invariant-loop-place l =
    (flats_atoms l.flats.items ≡ flats_atoms l.fn.flats.items)
    × All (IsWrittenOut (declarations l.program)) (take l.place l.flats.items)
