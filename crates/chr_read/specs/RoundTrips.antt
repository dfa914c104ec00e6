-- The canonical text of a program is read as the program.
use Rattle.std.specs.Prelude.{ℕ, List}
use Rattle.chr_base.specs.declared.program.Program.{Program}
use Rattle.chr_base.specs.Programs.{declarations, rules_of}
use Rattle.chr_read.specs.CanonicalTexts.{canonical}
use Rattle.chr_read.specs.Meanings.{meaning_of}
use Rattle.chr_read.specs.ProgramTexts.{IsShort, IsProgramText}

-- the text is a program text of what the program means, unless it is too long to be read
abbrev pub ComesBack : Program → List ℕ → Type 0
ComesBack p text = IsShort text → IsProgramText text (meaning_of p)

-- the canonical text of every program comes back
abbrev pub ProgramsComeBack : Type 0
ProgramsComeBack = (p : Program) → ComesBack p (canonical (declarations p) (rules_of p))
