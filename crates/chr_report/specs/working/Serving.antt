-- Answers of lines that come piece by piece.
use Rattle.std.specs.Prelude.{◌≡◌, ℕ, List, ◌++◌, Option, IfSome, Result, Ok}
use Rattle.chr_base.specs.declared.program.Program.{Program}
use Rattle.chr_base.specs.declared.rule.Rule.{Rule}
use Rattle.chr_base.specs.ProgramTests.{Declaration}
use Rattle.chr_base.specs.Programs.{declarations, rules_of}
use Rattle.chr_ops.specs.Operations.{Operations}
use Rattle.chr_read.specs.declared.fault.ReadFault.{ReadFault}
use Rattle.chr_report.specs.declared.running.Status.{Status}
use Rattle.chr_report.specs.declared.running.Status.TheVariants.{Accepted}
use Rattle.chr_report.specs.declared.wanted.Wanted.{Wanted}
use Rattle.chr_answers.specs.Lines.{lines}
use Rattle.chr_answers.specs.Answers.{AnswersAll}
use Rattle.chr_report.specs.Outputs.{IsReadOutput}

-- there are answers of the first bytes and of all that the reader gives, which fit `IsWritten`
pub record AnswersInput (ds : List Declaration) (rules : List Rule) (first : List ℕ) (known : Option (List ℕ))
    (old : List Operations) (IsWritten : List ℕ → Type 0) : Type 0 where
  pub input : List ℕ
  pub is_read : IfSome known (λ all. input ≡ all)
  pub answers : List ℕ
  pub answered : AnswersAll ds rules (lines (first ++ input)) old answers
  pub is_written : IsWritten answers

-- there is an output of the text, and of the commands in the first bytes and in all that the reader gives, which fits
-- `IsWritten`
pub record WritesText (IsAnswered : Result Program ReadFault → Type 0) (first : List ℕ) (known : Option (List ℕ))
    (wanted : Wanted) (status : Status) (IsWritten : List ℕ → Type 0) : Type 0 where
  pub input : List ℕ
  pub is_read : IfSome known (λ all. input ≡ all)
  pub answer : Result Program ReadFault
  pub is_answer : IsAnswered answer
  pub out : List ℕ
  pub output : IsReadOutput answer wanted (lines (first ++ input)) status out
  pub is_written : IsWritten out

-- the verdict on an accepted program, after which the answers of any commands may come
abbrev pub IsOpened : Program → Wanted → List Operations → List ℕ → Type 0
IsOpened p wanted start verdict =
    (commands : List (List ℕ)) (answers : List ℕ) → AnswersAll (declarations p) (rules_of p) commands start answers
    → IsReadOutput (Ok p) wanted commands Accepted (verdict ++ answers)
