-- What other threads read before its turn.
use Rattle.std.specs.Prelude.{IfSome}
use Rattle.std.specs.Arc.{arc_value}
use Rattle.chr_base.specs.declared.program.Program.{Program}
use Rattle.chr_report.specs.declared.readers.Done.{Done}
use Rattle.chr_answers.specs.Ahead.{IsAhead}
use Rattle.chr_report.specs.working.BlockLines.{lines_of}

-- what was read of a block is what its lines ask for
abbrev pub IsRead : Program → Done → Type 0
IsRead p d = IfSome d.ahead (IsAhead p (lines_of (arc_value d.block)))

-- `holds` holds of just those readings that are what the lines of their block ask for
pub record Agree (holds : Done → Type 0) (p : Program) : Type 0 where
  pub there : (d : Done) → IsRead p d → holds d
  pub back : (d : Done) → holds d → IsRead p d
