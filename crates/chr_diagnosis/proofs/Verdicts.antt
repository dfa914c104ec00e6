-- The verdict of what is told of a text.
use Rattle.std.specs.Prelude.{◌≡◌, List, ℕ, Bool, true, false, Option, None, Some, Result, Ok, Err, IfOk, IfSome}
use Rattle.std.proofs.Common.{inl, inr, refl, sym, subst}
use Rattle.chr_join.specs.declared.coverage.Coverage.{Coverage}
use Rattle.chr_join.specs.declared.coverage.Coverage.TheVariants.{Joint, Sorted}
use Rattle.chr_join.specs.declared.refused.Cause.TheVariants as cause
use Rattle.chr_join.specs.declared.refused.TooManyTypes.{TooManyTypes}
use Rattle.chr_join.specs.AcceptedPrograms.{cases_of, program_in, weighed_of}
use Rattle.chr_join.specs.declared.accepted.Accepted.{Accepted as AcceptedRules}
use Rattle.chr_join.specs.Verdicts.{IsAcceptedBy}
use Rattle.chr_base.specs.Programs.{rules_of}
use Rattle.chr_weights.specs.declared.weighed.Weighed.{Weighed}
use Rattle.chr_weights.specs.WeighedPrograms.{program_of, rules_in}
use Rattle.chr_diagnosis.specs.declared.diagnosis.Diagnosis.{Diagnosis}
use Rattle.chr_diagnosis.specs.declared.diagnosis.Judged.{Judged}
use Rattle.chr_diagnosis.specs.declared.diagnosis.Diagnosis.TheVariants.{Text, NotLowered, Fails}
use Rattle.chr_diagnosis.specs.declared.diagnosis.Diagnosis.TheVariants.{TooManyCombinations, Accepted}
use Rattle.chr_diagnosis.specs.Verdicts.{IsVerdict, verdict_of}
use Rattle.chr_base.specs.declared.program.Program.{Program}
use Rattle.chr_read.specs.declared.fault.Fault.{Fault}
use Rattle.chr_read.specs.declared.fault.ReadFault.TheVariants.{TooLong, Bad}
use Rattle.chr_read.specs.ProgramTexts.{IsAnswer}
use Rattle.chr_faults.specs.BadClauses.{IsRefused}
use Rattle.chr_diagnosis.specs.Diagnoses.{IsDiagnosis, IsDiagnosisOf}
use Rattle.chr_diagnosis.specs.Judgements.{IsChosen, IsJudged, IsJudgedOf, HasTooManyTypes}

pub verdict_is : (coverage : Coverage) (text : List ℕ) (d : Diagnosis) → IsDiagnosis coverage text d
    → IsVerdict coverage text (verdict_of d)
verdict_is coverage text (Text f) h = inl h.0
verdict_is coverage text (NotLowered u) h =
    inr (h.0, h.1, inl (record { rule = u.fault.rule; before = u.fault.before; after = u.fault.after; first = h.2.1 }))
verdict_is coverage text (Fails k) h = inr (
  h.0,
  h.1,
  inr (record {
    lowers = h.2.1;
    cause = cause.Fails k.first.failure;
    first = h.2.2.first;
    some = λ e. cc;
  }),
)
verdict_is Joint text (TooManyCombinations t) h = absurd h.2.1
verdict_is Sorted text (TooManyCombinations t) h = inr (
  h.0,
  h.1,
  inr (record {
    lowers = h.2.0;
    cause = cause.TooManyTypes t.too_many;
    first = h.2.1.1;
    some = λ e. cc;
  }),
)
verdict_is coverage text (Accepted c) h =
    (h.0, h.1, record { lowers = h.2.1; cases = cases_of c.accepted; accepted = h.2.2 })

-- what is told of the program of a text is told of the text
diagnosis_of : (coverage : Coverage) (text : List ℕ) (p : Program) (d : Diagnosis) → IsAnswer text (Ok p)
    → IsDiagnosisOf coverage p d → IsDiagnosis coverage text d
diagnosis_of coverage text p (Text f) a h = absurd h
diagnosis_of coverage text p (NotLowered u) a h = (p, a, h)
diagnosis_of coverage text p (Fails k) a h = (p, a, h)
diagnosis_of coverage text p (TooManyCombinations t) a h = (p, a, h)
diagnosis_of coverage text p (Accepted c) a h = (p, a, h)

crowd_of : (text : List ℕ) (p : Program) (o : Option TooManyTypes) → IsAnswer text (Ok p)
    → IfSome o (HasTooManyTypes p)
    → IfSome o (λ t. (q : Program) × IsAnswer text (Ok q) × HasTooManyTypes q t)
crowd_of text p None a h = h
crowd_of text p (Some t) a h = (p, a, h)

judged_of : (wide : Bool) (text : List ℕ) (p : Program) (j : Judged) → IsAnswer text (Ok p)
    → IsJudgedOf wide p j → IsJudged wide text j
judged_of wide text p j a h = record {
  told = diagnosis_of j.coverage text p j.diagnosis a h.told;
  chosen = h.chosen;
  crowd = crowd_of text p j.crowd a h.crowd;
}

pub told_of_text : {E : Type 0} (wide : Bool) (text : List ℕ) (p : Program) (r : Result Judged E)
    → IsAnswer text (Ok p) → IfOk r (IsJudgedOf wide p) → IfOk r (IsJudged wide text)
told_of_text wide text p (Ok j) a h = judged_of wide text p j a h
told_of_text wide text p (Err e) a h = h

-- sorted cases where they are asked for, else joint ones
pub chosen_wide : (wide : Bool) → wide ≡ true → IsChosen wide Sorted None
chosen_wide wide is = subst (λ b. IsChosen b Sorted None) (sym is) (refl, refl)

pub chosen_joint : (wide : Bool) → wide ≡ false → IsChosen wide Joint None
chosen_joint wide is = subst (λ b. IsChosen b Joint None) (sym is) refl

pub judged_where : {E : Type 0} (p : Program) (r : Result Judged E) (asked wide : Bool) → wide ≡ asked
    → IfOk r (IsJudgedOf asked p) → IfOk r (IsJudgedOf wide p)
judged_where p r asked wide is h = subst (λ b. IfOk r (IsJudgedOf b p)) (sym is) h

-- what is told whichever cases are looked at
pub told_at_once : (wide : Bool) (p : Program) (d : Diagnosis) (j : Judged) → j.diagnosis ≡ d
    → IsChosen wide j.coverage None → j.crowd ≡ None → ((c : Coverage) → IsDiagnosisOf c p d)
    → IsJudgedOf wide p j
told_at_once wide p d j same chosen none told = record {
  told = subst (IsDiagnosisOf j.coverage p) (sym same) (told j.coverage);
  chosen = subst (IsChosen wide j.coverage) (sym none) chosen;
  crowd = subst (λ o. IfSome o (HasTooManyTypes p)) (sym none) tt;
}

pub text_at_once : (wide : Bool) (text : List ℕ) (d : Diagnosis) (j : Judged) → j.diagnosis ≡ d
    → IsChosen wide j.coverage None → j.crowd ≡ None → ((c : Coverage) → IsDiagnosis c text d)
    → IsJudged wide text j
text_at_once wide text d j same chosen none told = record {
  told = subst (λ x. IsDiagnosis j.coverage text x) (sym same) (told j.coverage);
  chosen = subst (IsChosen wide j.coverage) (sym none) chosen;
  crowd = subst (λ o. IfSome o (λ t. (p : Program) × IsAnswer text (Ok p) × HasTooManyTypes p t)) (sym none) tt;
}

-- it has the verdict by the cases that were looked at
pub verdict_judged : (wide : Bool) (text : List ℕ) (j : Judged) → IsJudged wide text j
    → IsVerdict j.coverage text (verdict_of j.diagnosis)
verdict_judged wide text j h = verdict_is j.coverage text j.diagnosis h.told

-- a text that is no program is refused
pub too_long_refused : (text : List ℕ) → IsAnswer text (Err TooLong) → IsRefused text
too_long_refused text h = inl h

pub bad_refused : (text : List ℕ) (n : Fault) (k : ℕ) → IsAnswer text (Err (Bad n k)) → IsRefused text
bad_refused text n k h = inr (n, k, h)

-- an accepted program is the one that was given
pub accepted_given : (coverage : Coverage) (w : Weighed) (a : AcceptedRules) → weighed_of a ≡ w
    → IsAcceptedBy coverage (rules_in w) (cases_of a) → IsAcceptedBy coverage (rules_of (program_in a)) (cases_of a)
accepted_given coverage w a same accepted =
    subst (λ x. IsAcceptedBy coverage (rules_in x) (cases_of a)) (sym same) accepted

pub told_given : {E : Type 0} (coverage : Coverage) (w : Weighed) (a : AcceptedRules) (r : Result Diagnosis E)
    → weighed_of a ≡ w → IfOk r (IsDiagnosisOf coverage (program_in a)) → IfOk r (IsDiagnosisOf coverage (program_of w))
told_given coverage w a r same told = subst (λ x. IfOk r (IsDiagnosisOf coverage (program_of x))) same told
