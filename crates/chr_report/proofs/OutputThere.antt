-- Each input has an output.
use Rattle.std.specs.Prelude.{ℕ, ◌<◌, ◌⊎◌, List, [], ◌∷◌, ◌++◌, length, replicate, Result, Ok, Err}
use Rattle.std.proofs.Common.{refl, sym, subst, inl, inr}
use Rattle.std.specs.FinMap as map
use Rattle.chr_base.specs.declared.program.Program.{Program}
use Rattle.chr_base.specs.declared.weight.Weight.{Weight}
use Rattle.chr_base.specs.Programs.{declarations, rules_of}
use Rattle.chr_base.specs.ProgramTests.{some_paired}
use Rattle.chr_weights.specs.Weights.{AreLowering, IsFirstNotLowered, weight_by}
use Rattle.chr_weights.proofs.FirstNotLowered.{lowers_or_first}
use Rattle.chr_join.specs.declared.coverage.Coverage.TheVariants.{Joint}
use Rattle.chr_join.specs.declared.refused.Cause.TheVariants as cause
use Rattle.chr_join.proofs.VerdictThere.{HasVerdict, program_verdict}
use Rattle.chr_read.specs.declared.fault.Fault.{Fault}
use Rattle.chr_read.specs.declared.fault.ReadFault.{ReadFault}
use Rattle.chr_read.specs.declared.fault.ReadFault.TheVariants as fault
use Rattle.chr_read.specs.declared.reader.TheConstants.{MAX_TEXT}
use Rattle.chr_read.specs.Meanings.{Meaning}
use Rattle.chr_read.specs.ProgramTexts.{IsAnswer, IsProgramText, IsRefusedText, TextsHaveSomeAnswer}
use Rattle.chr_read.proofs.ProgramsThere.{program_there}
use Rattle.chr_report.specs.declared.running.Status.{Status}
use Rattle.chr_report.specs.declared.running.Status.TheVariants.{Accepted, Refused}
use Rattle.chr_report.specs.Asked.{replicas_by}
use Rattle.chr_answers.specs.Lines.{lines}
use Rattle.chr_report.specs.Inputs.{text_of, commands_of}
use Rattle.chr_report.specs.OneOutput.{OutputsExist}
use Rattle.chr_answers.specs.OneText.{AnswersExist}
use Rattle.chr_report.specs.Outputs.{IsReadOutput, IsRulesOutput, accepted_text, asked, not_lowered_text}
use Rattle.chr_report.specs.Overlaps.{failure_text, too_many_text}

-- there are a status and a text that fit P
abbrev HasOutput : (Status → List ℕ → Type 0) → Type 0
HasOutput P = (status : Status) × (out : List ℕ) × P status out

-- ---- programs

module _ (answers : AnswersExist) (p : Program) (replicas : ℕ) (commands : List (List ℕ)) where
  abbrev Rules : Status → List ℕ → Type 0
  Rules = IsRulesOutput (declarations p) (rules_of p) (replicas_by Joint replicas) commands

  weighed : (i : ℕ) (before after : Weight) → IsFirstNotLowered (declarations p) (rules_of p) i before after
      → HasOutput Rules
  weighed i before after first = (
    Refused,
    not_lowered_text (some_paired (declarations p)) i before after ++ 10 ∷ [],
    inl (record { rule = i; before = before; after = after; first = first; out_is = refl }),
  )

  judged : AreLowering (weight_by (declarations p)) (rules_of p) → HasVerdict (rules_of p) → HasOutput Rules
  judged lowers (inl v) =
      let w = answers (declarations p) (rules_of p) lowers commands (replicate replicas map.empty) in (
        Accepted,
        accepted_text (length (rules_of p)) v.0 ++ 10
            ∷ w.0,
        record { lowers = lowers; cases = v.0; accepted = v.1; answers = w.0; answered = w.1; out_is = refl },
      )
  judged lowers (inr (inl f)) = (
    Refused,
    failure_text (declarations p) f.0 ++ 10
        ∷ [],
    inr (record { lowers = lowers; cause = cause.Fails f.0; first = f.1; line = refl }),
  )
  judged lowers (inr (inr t)) = (
    Refused,
    too_many_text t.0 ++ 10 ∷ [],
    inr (record {
      lowers = lowers;
      cause = cause.TooManyTypes t.0;
      first =
          t.1;
      line = refl;
    }),
  )

  program_output : HasOutput Rules
  program_output = by (lowers_or_first (declarations p) (rules_of p))
    where
      by : AreLowering (weight_by (declarations p)) (rules_of p)
          ⊎ ((i : ℕ) × (before : Weight) × (after : Weight) × IsFirstNotLowered (declarations p)
          (rules_of p) i before after) → HasOutput Rules
      by (inl lowers) = judged lowers (program_verdict p lowers)
      by (inr w) = weighed w.0 w.1 w.2 w.3

-- ---- texts

abbrev HasTextOutput : List ℕ → ℕ → List (List ℕ) → Type 0
HasTextOutput text replicas commands = HasOutput (λ status out. (answer : Result Program ReadFault)
    × IsAnswer text answer × IsReadOutput answer (replicas_by Joint replicas) commands status out)

module _ (answers : AnswersExist) (text : List ℕ) (replicas : ℕ) (commands : List (List ℕ)) where
  of_program : (m : Meaning) → IsProgramText text m → HasTextOutput text replicas commands
  of_program m h =
      let p = program_there text m h in
      let o = program_output answers p.0 replicas commands in
      (o.0, o.1, (Ok p.0, subst (IsProgramText text) (sym p.1) h, o.2))

  text_output : ((m : Meaning) × IsProgramText text m) ⊎ ((n : Fault) × (k : ℕ) × IsRefusedText text n k)
      ⊎ (MAX_TEXT < length text) → HasTextOutput text replicas commands
  text_output (inl m) = of_program m.0 m.1
  text_output (inr (inl r)) = (Refused, _, (Err (fault.Bad r.0 r.1), r.2, (refl, refl)))
  text_output (inr (inr l)) = (Refused, _, (Err fault.TooLong, l, (refl, refl)))

pub outputs_exist : TextsHaveSomeAnswer → AnswersExist → OutputsExist
outputs_exist read answers verb replicas input = text_output answers (text_of (lines input)) replicas
    (asked verb (commands_of (lines input))) (read (text_of (lines input)))
