use Rattle.std.proofs.Common.{ℕ, List, ◌++◌, take}
use Rattle.std.specs.Prelude.{string_bytes}
use Rattle.chr_base.specs.declared.atom.Atom.{Atom}
use Rattle.chr_base.specs.Programs.{declarations}
use Rattle.chr_plans.specs.Grids.{live_atoms}
use Rattle.chr_printing.specs.working.Printing.{turn_rows, IsWritten}
use Rattle.chr_printing.proofs.turns.push_rows.Given as goal

abbrev pub invariant-loop-row : goal.invariant-loop-row
invariant-loop-row l =
    (start : List ℕ) (before : List Atom)
    → IsWritten (declarations l.program) start before l.fn.started (string_bytes l.fn.out)
    → IsWritten (declarations l.program) start (before ++ live_atoms (take l.row (turn_rows l.source))) l.started
    (string_bytes l.out)
