-- What is known of a text that was judged.
use Rattle.std.specs.Prelude.{◌≡◌, ℕ, List, Result, Ok, string_bytes}
use Rattle.chr_base.specs.declared.program.Program.{Program}
use Rattle.chr_base.specs.Programs.{rules_of}
use Rattle.chr_join.specs.AcceptedPrograms.{cases_of, program_in}
use Rattle.chr_join.specs.declared.coverage.Coverage.{Coverage}
use Rattle.chr_join.specs.Verdicts.{IsAcceptedBy}
use Rattle.chr_read.specs.ProgramTexts.{IsAnswer}
use Rattle.chr_read.specs.declared.fault.ReadFault.{ReadFault}
use Rattle.chr_report.specs.declared.running.Status.TheVariants.{Refused}
use Rattle.chr_report.specs.declared.judging.Judged.{Judged}
use Rattle.chr_report.specs.declared.judging.Judged.TheVariants as judged
use Rattle.chr_report.specs.Asked.{replicas_by}
use Rattle.chr_report.specs.Outputs.{IsReadOutput}

-- the program of this answer is accepted, or the line is its output, whatever the commands and the number of replicas
abbrev pub IsJudged : Coverage → Result Program ReadFault → Judged → Type 0
IsJudged coverage answer (judged.Accepted a) =
    (answer ≡ Ok (program_in a)) × IsAcceptedBy coverage (rules_of (program_in a)) (cases_of a)
IsJudged coverage answer (judged.Refused line) =
    (replicas : ℕ) (commands : List (List ℕ))
    → IsReadOutput answer (replicas_by coverage replicas) commands Refused (string_bytes line)

-- what was judged fits the answer to which the text is read
abbrev pub IsJudgedText : Coverage → List ℕ → Judged → Type 0
IsJudgedText coverage text j = (answer : Result Program ReadFault) × IsAnswer text answer × IsJudged coverage answer j
