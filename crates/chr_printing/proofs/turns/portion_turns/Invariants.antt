use Rattle.std.proofs.Common.{◌≡◌, List, ℤ}
use Rattle.chr_base.specs.declared.atom.Atom.{Atom}
use Rattle.chr_base.specs.ProgramTests.{Declaration}
use Rattle.chr_base.specs.Stores.{store_of}
use Rattle.chr_printing.specs.working.Portions.{ArePortions}
use Rattle.chr_printing.specs.working.Printing.{all_atoms, Fit}
use Rattle.chr_printing.proofs.Portioned.{first_portions}
use Rattle.chr_printing.proofs.turns.portion_turns.Given as goal

abbrev pub invariant-loop-portion : goal.invariant-loop-portion
invariant-loop-portion l =
    (ds : List Declaration) (cuts : List ℤ) (atoms : List Atom) → ArePortions ds cuts atoms l.portions
    → (store_of (all_atoms l.turns.items) ≡ store_of (first_portions cuts l.portion-index atoms)) × Fit ds l.turns.items
