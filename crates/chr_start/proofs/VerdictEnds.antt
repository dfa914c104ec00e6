-- A verdict is that of a check.
use Rattle.std.proofs.Common.{◌≡◌, ◌++◌, ℕ, List, [], ◌∷◌, length, refl, subst, sym, inl, inr}
use Rattle.std.specs.Prelude.{◌⊎◌, Bool, true, false, Option, Some, None, Result, Ok, Err, IfSome}
use Rattle.chr_base.specs.declared.program.Program.{Program}
use Rattle.chr_base.specs.ProgramTests.{some_paired}
use Rattle.chr_base.specs.Programs.{declarations, rules_of}
use Rattle.chr_join.specs.declared.coverage.Coverage.{Coverage}
use Rattle.chr_join.specs.declared.coverage.Coverage.TheVariants.{Joint, Sorted}
use Rattle.chr_join.specs.declared.refused.TooManyTypes.{TooManyTypes}
use Rattle.chr_join.specs.declared.refused.Cause.{Cause}
use Rattle.chr_join.specs.declared.refused.Cause.TheVariants as cause
use Rattle.chr_join.specs.Explanations.{IsRefusalBy}
use Rattle.chr_weights.specs.Weights.{ProgramLowers}
use Rattle.chr_read.specs.ProgramTexts.{IsAnswer}
use Rattle.chr_read.specs.declared.fault.ReadFault.{ReadFault}
use Rattle.chr_read.specs.declared.fault.ReadFault.TheVariants as fault
use Rattle.chr_device.specs.declared.words.Verb.TheVariants.{Check}
use Rattle.chr_diagnosis.specs.declared.diagnosis.Judged.{Judged}
use Rattle.chr_diagnosis.specs.declared.diagnosis.Verdict.{Verdict}
use Rattle.chr_diagnosis.specs.declared.diagnosis.Verdict.TheVariants as verdict
use Rattle.chr_faults.specs.BadClauses.{IsRefused}
use Rattle.chr_diagnosis.specs.Judgements.{HasTooManyTypes, IsChosen, IsJudged}
use Rattle.chr_diagnosis.specs.Verdicts.{IsRefusedByOverlap, IsUnlowered, IsVerdict}
use Rattle.chr_report.specs.declared.running.Status.{Status}
use Rattle.chr_report.specs.declared.running.Status.TheVariants.{Refused}
use Rattle.chr_answers.specs.Lines.{lines}
use Rattle.chr_report.specs.Inputs.{text_of}
use Rattle.chr_report.specs.Asked.{replicas_by}
use Rattle.chr_report.specs.Outputs.{Decides, IsOutput, IsReadOutput, IsRulesOutput, accepted_text, not_lowered_text}
use Rattle.chr_report.specs.Overlaps.{failure_text, too_many_text}
use Rattle.chr_start.specs.Statuses.{EndsAsJudged, IsJudgedBy}
use Rattle.chr_start.specs.working.Verdicts.{as_status}

-- what a check writes of a text with this status
abbrev HasOutput : Coverage → List ℕ → Status → Type 0
HasOutput coverage text status =
    (out : List ℕ) × ((answer : Result Program ReadFault) × IsAnswer text answer
    × IsReadOutput answer (replicas_by coverage 1) [] status out)

module _ (coverage : Coverage) (p : Program) where
  by_cause : ProgramLowers p → (c : Cause) → IsRefusalBy coverage (rules_of p) c → ¬ (c ≡ cause.Memory)
      → (out : List ℕ) × IsRulesOutput (declarations p) (rules_of p) (replicas_by coverage 1) [] Refused out
  by_cause lowers (cause.Fails f) first some = (
    failure_text (declarations p) f ++ 10 ∷ [],
    inr
        (record { lowers = lowers; cause = cause.Fails f; first = first; line = refl }),
  )
  by_cause lowers (cause.TooManyTypes t) first some = (
    too_many_text t ++ 10 ∷ [],
    inr (record {
      lowers = lowers;
      cause = cause.TooManyTypes t;
      first = first;
      line =
          refl;
    }),
  )
  by_cause lowers cause.Memory first some = absurd (some refl)

  by_rules : IsUnlowered p ⊎ IsRefusedByOverlap coverage p → (out : List ℕ)
      × IsRulesOutput (declarations p) (rules_of p) (replicas_by coverage 1) [] Refused out
  by_rules (inl u) = (
    not_lowered_text (some_paired (declarations p)) u.rule u.before u.after ++ 10 ∷ [],
    inl (record { rule = u.rule; before = u.before; after = u.after; first = u.first; out_is = refl }),
  )
  by_rules (inr o) = by_cause o.lowers o.cause o.first o.some

refused_output : (coverage : Coverage) (text : List ℕ) → IsRefused text → HasOutput coverage text Refused
refused_output coverage text (inl long) = (_, (Err fault.TooLong, long, (refl, refl)))
refused_output coverage text (inr r) = (_, (Err (fault.Bad r.0 r.1), r.2, (refl, refl)))

text_output : (coverage : Coverage) (text : List ℕ) (v : Verdict) → IsVerdict coverage text v
    → HasOutput coverage text (as_status v)
text_output coverage text verdict.Accepted h = (
  accepted_text (length (rules_of h.0)) h.2.cases ++ 10 ∷ [],
  (
    Ok h.0,
    h.1,
    record {
      lowers = h.2.lowers;
      cases = h.2.cases;
      accepted = h.2.accepted;
      answers = [];
      answered = refl;
      out_is =
          refl;
    },
  ),
)
text_output coverage text verdict.Refused (inl r) = refused_output coverage text r
text_output coverage text verdict.Refused (inr h) = let o = by_rules coverage h.0 h.2 in (o.0, (Ok h.0, h.1, o.1))

pub checked : (coverage : Coverage) (text input : List ℕ) (v : Verdict) → text ≡ text_of (lines input)
    → IsVerdict coverage text v → (out : List ℕ) × IsOutput Check (replicas_by coverage 1) input (as_status v) out
checked coverage text input v is h = text_output coverage (text_of (lines input)) v
    (subst (λ t. IsVerdict coverage t v) is h)

-- what a check by joint cases writes where an overlap has too many of them
too_many_told : (text : List ℕ) (t : TooManyTypes) (p : Program) → IsAnswer text (Ok p) → HasTooManyTypes p t
    → (answer : Result Program ReadFault) × IsAnswer text answer
    × IsReadOutput answer (replicas_by Joint 1) [] Refused (too_many_text t ++ 10 ∷ [])
too_many_told text t p a h = (
  Ok p,
  a,
  inr (record {
    lowers = h.0;
    cause = cause.TooManyTypes t;
    first = h.1;
    line =
        refl;
  }),
)

chosen_by : (wide : Bool) (text input : List ℕ) (c : Coverage) (crowd : Option TooManyTypes)
    → text ≡ text_of (lines input) → IsChosen wide c crowd
    → IfSome crowd (λ t. (p : Program) × IsAnswer text (Ok p) × HasTooManyTypes p t) → IsJudgedBy wide input c
chosen_by true text input c crowd is chosen some = chosen.0
chosen_by false text input Joint crowd is chosen some = tt
chosen_by false text input Sorted None is chosen some = absurd (cc)
chosen_by false text input Sorted (Some t) is chosen some = (
  t,
  subst
      (λ x.
      (answer : Result Program ReadFault) × IsAnswer x answer
      × IsReadOutput answer (replicas_by Joint 1) [] Refused (too_many_text t ++ 10 ∷ []))
      is (too_many_told text t some.0 some.1 some.2),
)

-- what a check writes of what is kept it writes of the input
judged_on : (wide : Bool) (kept input : List ℕ) (c : Coverage) → Decides kept input → IsJudgedBy wide kept c
    → IsJudgedBy wide input c
judged_on true kept input c d h = h
judged_on false kept input Joint d h = tt
judged_on false kept input Sorted d h =
    (h.0, d Check (replicas_by Joint 1) Refused (too_many_text h.0 ++ 10 ∷ []) h.1)

kept_ends : (wide : Bool) (coverage : Coverage) (bytes : Option (List ℕ)) (kept : List ℕ) (status : Status)
    → IfSome bytes (Decides kept) → IsJudgedBy wide kept coverage
    → (out : List ℕ) × IsOutput Check (replicas_by coverage 1) kept status out → EndsAsJudged wide bytes status
kept_ends wide coverage None kept status d by o = (kept, tt, coverage, by, o.0, o.1)
kept_ends wide coverage (Some x) kept status d by o = (
  x,
  refl,
  coverage,
  judged_on wide kept x coverage d by,
  o.0,
  d Check (replicas_by coverage 1) status o.0 o.1,
)

-- the status of a verdict on the program text of what is kept of the input
pub verdict_ends : (wide : Bool) (bytes : Option (List ℕ)) (text kept : List ℕ) (j : Judged) (v : Verdict)
    (status : Status)
    → IfSome bytes (Decides kept) → text ≡ text_of (lines kept) → IsJudged wide text j → IsVerdict j.coverage text v
    → status ≡ as_status v → EndsAsJudged wide bytes status
verdict_ends wide bytes text kept j v status d is judged h same =
    let o = checked j.coverage text kept v is h in
    kept_ends wide j.coverage bytes kept status d
    (chosen_by wide text kept j.coverage j.crowd is judged.chosen judged.crowd)
    (o.0, subst (λ s. IsOutput Check (replicas_by j.coverage 1) kept s o.0) (sym same) o.1)
