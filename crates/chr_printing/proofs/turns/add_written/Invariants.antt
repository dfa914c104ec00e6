use Rattle.std.proofs.Common.{◌≡◌, ◌++◌, List, take, All}
use Rattle.chr_base.specs.ProgramTests.{Declaration}
use Rattle.chr_printing.specs.working.Printing.{all_atoms, flats_atoms, Fit, IsWrittenOut}
use Rattle.chr_printing.proofs.turns.add_written.Given as goal

abbrev pub invariant-loop-flat : goal.invariant-loop-flat
invariant-loop-flat l =
    (all_atoms l.turns.items ≡ all_atoms l.fn.turns.items ++ flats_atoms (take l.flat-index l.flats))
    × ((ds : List Declaration) → All (IsWrittenOut ds) l.flats → Fit ds l.fn.turns.items → Fit ds l.turns.items)
