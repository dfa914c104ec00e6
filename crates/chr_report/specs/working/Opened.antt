-- What comes after a verdict.
use Rattle.std.specs.Prelude.{ℕ, List, [], ◌++◌, Result}
use Rattle.chr_base.specs.declared.program.Program.{Program}
use Rattle.chr_base.specs.Programs.{declarations, rules_of}
use Rattle.chr_read.specs.ProgramTexts.{IsAnswer}
use Rattle.chr_read.specs.declared.fault.ReadFault.{ReadFault}
use Rattle.chr_answers.specs.Answers.{AnswersAll}
use Rattle.chr_answers.specs.Services.{held, served}
use Rattle.chr_report.specs.declared.running.Status.TheVariants as status
use Rattle.chr_report.specs.declared.turning.Asked.{Asked}
use Rattle.chr_report.specs.declared.turning.Stage.{Stage}
use Rattle.chr_report.specs.declared.turning.Stage.TheVariants as stage
use Rattle.chr_report.specs.Outputs.{IsReadOutput}
use Rattle.chr_report.specs.working.Coming.{AsksAll, AsksNothing}

-- answers of any commands go on from the verdict
pub record Opens (a : Asked) (answer : Result Program ReadFault) (verdict : List ℕ)
    (Answers : List (List ℕ) → List ℕ → Type 0) : Type 0 where
  pub all : AsksAll a.verb
  pub goes : (commands : List (List ℕ)) (tail : List ℕ) → Answers commands tail
      → IsReadOutput answer a.wanted commands status.Accepted (verdict ++ tail)
  pub exists : (commands : List (List ℕ)) → (tail : List ℕ) × Answers commands tail

-- the verdict on a text with this answer, and what an input stands at after it
abbrev pub IsVerdict : Asked → Result Program ReadFault → Stage → List ℕ → Type 0
IsVerdict a answer (stage.Text t) verdict = ⊥
IsVerdict a answer (stage.Commands s) verdict =
    Opens a answer verdict
    (λ commands tail. AnswersAll (declarations (served s.value)) (rules_of (served s.value)) commands (held s.value)
    tail)
IsVerdict a answer stage.Checked verdict =
    AsksNothing a.verb × IsReadOutput answer a.wanted [] status.Accepted verdict
IsVerdict a answer stage.Refused verdict =
    (commands : List (List ℕ)) → IsReadOutput answer a.wanted commands status.Refused verdict

abbrev pub IsVerdictOn : Asked → List ℕ → Stage → List ℕ → Type 0
IsVerdictOn a text now verdict = (answer : Result Program ReadFault) × IsAnswer text answer
    × IsVerdict a answer now verdict
