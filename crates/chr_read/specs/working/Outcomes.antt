-- What the answers of the reading mean.
use Rattle.std.specs.Prelude.{◌≡◌, ℕ, List, true, false, Some, None, Result, Ok, Err}
use Rattle.chr_syntax.specs.declared.clause.RawClause.{RawClause}
use Rattle.chr_syntax.specs.declared.fault.ClauseFault.{ClauseFault}
use Rattle.chr_syntax.specs.declared.fault.ClauseFault.TheVariants as clause
use Rattle.chr_syntax.specs.Bytes.{is_text}
use Rattle.chr_syntax.specs.Grammar.{IsForm}
use Rattle.chr_syntax.specs.Views.{clause_view}
use Rattle.chr_syntax.specs.working.Forms.{clause_of}
use Rattle.chr_base.specs.declared.program.Program.{Program}
use Rattle.chr_read.specs.declared.fault.Fault.{Fault}
use Rattle.chr_read.specs.declared.fault.ReadFault.{ReadFault}
use Rattle.chr_read.specs.declared.fault.ReadFault.TheVariants as read
use Rattle.chr_read.specs.declared.progress.Reader.{Reader}
use Rattle.chr_read.specs.declared.reader.Stop.{Stop}
use Rattle.chr_read.specs.declared.reader.Stop.TheVariants as stop
use Rattle.chr_read.specs.Meanings.{Meaning, Progress, meaning_of}
use Rattle.chr_read.specs.NamesOfForms.{has_names}
use Rattle.chr_read.specs.working.Views.{progress_of}

-- the form that is read, and its names are names of a program
abbrev pub IsReadClause : Result RawClause ClauseFault → List ℕ → Type 0
IsReadClause (Ok c) bytes = (is_text bytes ≡ true) × (clause_of bytes ≡ Some (clause_view c))
    × IsForm (clause_view c) × (has_names (clause_view c) ≡ true)
IsReadClause (Err clause.Memory) bytes = Unit {0}
IsReadClause (Err clause.BadByte) bytes = is_text bytes ≡ false
IsReadClause (Err clause.Syntax) bytes = (is_text bytes ≡ true) × (clause_of bytes ≡ None)

-- what a call left, and what it answered
abbrev pub ClauseGives : Result (Unit {0}) Stop → Progress → Result Progress Fault → Type 0
ClauseGives (Ok x) after meant = meant ≡ Ok after
ClauseGives (Err stop.Memory) after meant = Unit {0}
ClauseGives (Err (stop.Bad n)) after meant = meant ≡ Err n

abbrev pub ClausesGive : Result Reader ReadFault → Result Progress ReadFault → Type 0
ClausesGive (Ok r) meant = meant ≡ Ok (progress_of r)
ClausesGive (Err read.Memory) meant = Unit {0}
ClausesGive (Err read.TooLong) meant = meant ≡ Err read.TooLong
ClausesGive (Err (read.Bad n k)) meant = meant ≡ Err (read.Bad n k)

-- an answer is what reading gives, unless memory ran out
abbrev pub IsReadAs : Result Program ReadFault → Result Meaning ReadFault → Type 0
IsReadAs (Ok p) meant = meant ≡ Ok (meaning_of p)
IsReadAs (Err read.Memory) meant = Unit {0}
IsReadAs (Err read.TooLong) meant = meant ≡ Err read.TooLong
IsReadAs (Err (read.Bad n k)) meant = meant ≡ Err (read.Bad n k)
