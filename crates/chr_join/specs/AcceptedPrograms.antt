-- What an accepted program is seen as.
use Rattle.std.specs.Prelude.{ℕ}
use Rattle.std.specs.Arc.{arc_value}
use Rattle.chr_base.specs.declared.program.Program.{Program}
use Rattle.chr_weights.specs.declared.weighed.Weighed.{Weighed}
use Rattle.chr_weights.specs.WeighedPrograms.{program_of}
use Rattle.chr_join.specs.declared.accepted.Accepted.{Accepted}
use Rattle.chr_join.specs.declared.coverage.Coverage.{Coverage}

-- the program of an accepted one, with its weights
abbrev pub weighed_of : Accepted → Weighed
weighed_of a = arc_value a.weighed

-- the program of an accepted one
abbrev pub program_in : Accepted → Program
program_in a = program_of (weighed_of a)

-- which cases of the accepted program were looked at
abbrev pub coverage_of : Accepted → Coverage
coverage_of a = a.coverage

-- the number of all cases that were looked at
abbrev pub cases_of : Accepted → ℕ
cases_of a = a.cases
