-- What is told of a text, and by which cases.
use Rattle.std.specs.Prelude.{◌≡◌, ℕ, Bool, true, false, List, Ok, Option, None, Some, IfSome}
use Rattle.chr_base.specs.declared.program.Program.{Program}
use Rattle.chr_base.specs.Programs.{rules_of}
use Rattle.chr_weights.specs.Weights.{ProgramLowers}
use Rattle.chr_join.specs.declared.coverage.Coverage.{Coverage}
use Rattle.chr_join.specs.declared.coverage.Coverage.TheVariants.{Joint, Sorted}
use Rattle.chr_join.specs.declared.refused.Cause.TheVariants as cause
use Rattle.chr_join.specs.declared.refused.TooManyTypes.{TooManyTypes}
use Rattle.chr_join.specs.Explanations.{IsRefusalBy}
use Rattle.chr_read.specs.ProgramTexts.{IsAnswer}
use Rattle.chr_diagnosis.specs.declared.diagnosis.Judged.{Judged}
use Rattle.chr_diagnosis.specs.Diagnoses.{IsDiagnosis, IsDiagnosisOf}

-- the program lowers, and by joint cases it is refused for this overlap of too many order types
abbrev pub HasTooManyTypes : Program → TooManyTypes → Type 0
HasTooManyTypes p t = ProgramLowers p × IsRefusalBy Joint (rules_of p) (cause.TooManyTypes t)

-- sorted cases where they are asked for; else joint ones, or sorted ones behind an overlap of too many order types
abbrev pub IsChosen : Bool → Coverage → Option TooManyTypes → Type 0
IsChosen true coverage crowd = (coverage ≡ Sorted) × (crowd ≡ None)
IsChosen false coverage None = coverage ≡ Joint
IsChosen false coverage (Some t) = coverage ≡ Sorted

-- what is told of a program
pub record IsJudgedOf (wide : Bool) (p : Program) (j : Judged) : Type 0 where
  pub told : IsDiagnosisOf j.coverage p j.diagnosis
  pub chosen : IsChosen wide j.coverage j.crowd
  pub crowd : IfSome j.crowd (HasTooManyTypes p)

-- what is told of a text
pub record IsJudged (wide : Bool) (text : List ℕ) (j : Judged) : Type 0 where
  pub told : IsDiagnosis j.coverage text j.diagnosis
  pub chosen : IsChosen wide j.coverage j.crowd
  pub crowd : IfSome j.crowd (λ t. (p : Program) × IsAnswer text (Ok p) × HasTooManyTypes p t)
