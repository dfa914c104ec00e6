use Rattle.std.proofs.Common.{List, ◌++◌, take}
use Rattle.chr_base.specs.declared.atom.Atom.{Atom}
use Rattle.chr_base.specs.Programs.{declarations}
use Rattle.chr_plans.specs.Grids.{live_atoms}
use Rattle.chr_printing.specs.working.Printing.{turn_rows, Rises}
use Rattle.chr_printing.proofs.turns.follow_rows.Given as goal

abbrev pub invariant-loop-row : goal.invariant-loop-row
invariant-loop-row l =
    (before : List Atom) → Rises (declarations l.program) before l.fn.last
    → Rises (declarations l.program) (before ++ live_atoms (take l.row (turn_rows l.source))) l.last
