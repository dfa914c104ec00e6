use Rattle.std.proofs.Common.{◌≡◌, List, take}
use Rattle.chr_base.specs.ProgramTests.{Declaration}
use Rattle.chr_printing.specs.working.Printing.{all_atoms, flats_atoms, Fit}
use Rattle.chr_printing.proofs.turns.flat_turns.Given as goal

abbrev pub invariant-loop-flat : goal.invariant-loop-flat
invariant-loop-flat l =
    (all_atoms l.turns.items ≡ flats_atoms (take l.flat-index l.flats))
    × ((ds : List Declaration) → Fit ds l.turns.items)
