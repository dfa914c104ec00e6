-- The verdict on a text by the cases that a coverage has, which a check of it gives too.
use Rattle.std.specs.Prelude.{◌≡◌, ℕ, ◌⊎◌, List, Ok}
use Rattle.chr_base.specs.declared.program.Program.{Program}
use Rattle.chr_base.specs.declared.weight.Weight.{Weight}
use Rattle.chr_base.specs.Programs.{declarations, rules_of}
use Rattle.chr_weights.specs.Weights.{ProgramLowers, IsFirstNotLowered}
use Rattle.chr_join.specs.declared.accepted.Accepted.{Accepted}
use Rattle.chr_join.specs.AcceptedPrograms.{program_in}
use Rattle.chr_join.specs.declared.coverage.Coverage.{Coverage}
use Rattle.chr_join.specs.declared.refused.Cause.{Cause}
use Rattle.chr_join.specs.declared.refused.Cause.TheVariants.{Memory}
use Rattle.chr_join.specs.Verdicts.{IsAcceptedBy}
use Rattle.chr_join.specs.Explanations.{IsRefusalBy}
use Rattle.chr_read.specs.ProgramTexts.{IsAnswer}
use Rattle.chr_diagnosis.specs.declared.diagnosis.Verdict.{Verdict}
use Rattle.chr_diagnosis.specs.declared.diagnosis.Verdict.TheVariants.{Accepted as IsTold, Refused}
use Rattle.chr_diagnosis.specs.declared.diagnosis.Diagnosis.{Diagnosis}
use Rattle.chr_diagnosis.specs.declared.diagnosis.Diagnosis.TheVariants as diagnosis
use Rattle.chr_faults.specs.BadClauses.{IsRefused}

-- each rule lowers the weight, and each case of each overlap is joinable
pub record IsAcceptedProgram (coverage : Coverage) (p : Program) : Type 0 where
  pub lowers : ProgramLowers p
  pub cases : ℕ
  pub accepted : IsAcceptedBy coverage (rules_of p) cases

-- the program is accepted, and is that of the answer
abbrev pub IsAcceptedAs : Coverage → Program → Accepted → Type 0
IsAcceptedAs coverage p a = (program_in a ≡ p) × IsAcceptedProgram coverage p

-- the text is a program that is accepted, that of the answer
abbrev pub IsAcceptedText : Coverage → List ℕ → Accepted → Type 0
IsAcceptedText coverage text a = IsAnswer text (Ok (program_in a)) × IsAcceptedProgram coverage (program_in a)

-- a rule does not lower the weight
pub record IsUnlowered (p : Program) : Type 0 where
  pub rule : ℕ
  pub before : Weight
  pub after : Weight
  pub first : IsFirstNotLowered (declarations p) (rules_of p) rule before after

-- each rule lowers the weight, and there is a cause of refusal other than want of memory
pub record IsRefusedByOverlap (coverage : Coverage) (p : Program) : Type 0 where
  pub lowers : ProgramLowers p
  pub cause : Cause
  pub first : IsRefusalBy coverage (rules_of p) cause
  pub some : ¬ (cause ≡ Memory)

-- the text is a program that is accepted; it is none, or one that is refused
abbrev pub IsVerdict : Coverage → List ℕ → Verdict → Type 0
IsVerdict coverage text IsTold = (p : Program) × IsAnswer text (Ok p) × IsAcceptedProgram coverage p
IsVerdict coverage text Refused =
    IsRefused text ⊎ ((p : Program) × IsAnswer text (Ok p) × (IsUnlowered p ⊎ IsRefusedByOverlap coverage p))

abbrev pub verdict_of : Diagnosis → Verdict
verdict_of (diagnosis.Accepted c) = IsTold
verdict_of (diagnosis.Text f) = Refused
verdict_of (diagnosis.NotLowered u) = Refused
verdict_of (diagnosis.Fails p) = Refused
verdict_of (diagnosis.TooManyCombinations t) = Refused
