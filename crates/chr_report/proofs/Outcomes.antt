-- The parts of a run's output put together.
use Rattle.std.proofs.Common.{◌≡◌, ℕ, List, [], ◌∷◌, ◌++◌, length, refl, sym, ap, ◌∙◌, subst, append_assoc, append-nil}
use Rattle.std.proofs.Common.{◌⊎◌}
use Rattle.std.specs.Prelude.{Option, None, Some, Result, Ok, Err, IfSome, IfOk, replicate}
use Rattle.std.specs.Borrow.{Bor}
use Rattle.std.specs.FinMap as finmap
use Rattle.std.specs.Io.KnownBytes.{Appends}
use Rattle.chr_base.specs.declared.program.Program.{Program}
use Rattle.chr_base.specs.Programs.{declarations, rules_of}
use Rattle.chr_join.specs.declared.accepted.Accepted.{Accepted}
use Rattle.chr_join.specs.AcceptedPrograms.{weighed_of, cases_of}
use Rattle.chr_join.specs.Verdicts.{IsAcceptedBy}
use Rattle.chr_base.specs.declared.rule.Rule.{Rule}
use Rattle.chr_base.specs.ProgramTests.{Declaration}
use Rattle.chr_ops.specs.Operations.{Operations}
use Rattle.chr_read.specs.ProgramTexts.{IsAnswer}
use Rattle.chr_read.specs.declared.fault.ReadFault.{ReadFault}
use Rattle.chr_report.specs.declared.wanted.Wanted.{Wanted}
use Rattle.chr_report.specs.declared.running.Status.TheVariants.{Refused}
use Rattle.chr_report.specs.declared.running.Status.{Status}
use Rattle.chr_device.specs.declared.words.Verb.{Verb}
use Rattle.chr_join.specs.AcceptedPrograms.{program_in}
use Rattle.chr_answers.specs.Lines.{lines}
use Rattle.chr_report.specs.Inputs.{text_of, commands_of}
use Rattle.chr_answers.specs.Answers.{AnswersAll}
use Rattle.chr_answers.specs.Answered.{AnswersRest}
use Rattle.chr_report.specs.working.LinesLeft.{lines_left}
use Rattle.chr_report.specs.Outputs.{asked, Decides, IsOutput, IsReadOutput, IsAnswered, IsRefusedByWeights}
use Rattle.chr_report.specs.Outputs.{IsRefusedByOverlaps, accepted_text}
use Rattle.chr_report.specs.Written.{Writes}

-- what is kept of an input decides what is written for it
pub kept_written : (from : Option (List ℕ)) (kept out : List ℕ) (verb : Verb) (wanted : Wanted) (status : Status)
    (IsWritten : List ℕ → Type 0) → IfSome from (Decides kept) → IsOutput verb wanted kept status out → IsWritten out
    → Writes from verb wanted status IsWritten
kept_written None kept out verb wanted status IsWritten d o w =
    record { input = kept; is_read = tt; out = out; is_output = o; is_written = w }
kept_written (Some x) kept out verb wanted status IsWritten d o w =
    record { input = x; is_read = refl; out = out; is_output = d verb wanted status out o; is_written = w }

-- what is written of an output that was made
pub output_written : (from : Option (List ℕ)) (verb : Verb) (wanted : Wanted) (status : Status) (text written : List ℕ)
    (IsWritten : List ℕ → Type 0) → Writes from verb wanted status (Appends (Some []) (Some text)) → written ≡ text
    → IsWritten written → Writes from verb wanted status IsWritten
output_written from verb wanted status text written IsWritten w e a = record {
  input = w.input;
  is_read = w.is_read;
  out = w.out;
  is_output = w.is_output;
  is_written = subst IsWritten (e ∙ w.is_written) a;
}

-- where there are no lines, there are no answers
pub nothing_to_answer : (ds : List Declaration) (rules : List Rule) (commands : Option (Bor (List ℕ)))
    (old : List Operations) (before : List ℕ) → commands ≡ None
    → AnswersRest ds rules (lines_left commands) old before before
nothing_to_answer ds rules commands old before e =
    rw e (let r : AnswersRest ds rules [] old before before =
    record { out = []; answers = refl; out_is = sym (append-nil before) } in r)

-- the verdict's line and the answers are the output of an accepted program
pub program_answered : (a : Accepted) (p : Program) (ls : List (List ℕ)) (n m : ℕ) (wanted : Wanted) (start : List
    Operations)
    (before out : List ℕ) → IsAcceptedBy wanted.coverage (rules_of (program_in a)) (cases_of a)
    → p ≡ program_in a → n ≡ length (rules_of (program_in a)) → m ≡ cases_of a → before ≡ accepted_text n m ++ 10 ∷ []
    → start ≡ replicate wanted.replicas finmap.empty
    → AnswersRest (declarations p) (rules_of p) ls start before out
    → IsAnswered (declarations (program_in a)) (rules_of (program_in a)) wanted ls out
program_answered a p ls n m wanted start before out accepted e f q g h r =
    let k : AnswersRest (declarations (program_in a)) (rules_of (program_in a)) ls start before out =
    subst (λ q. AnswersRest (declarations q) (rules_of q) ls start before out) e r in
    record {
      lowers = (weighed_of a).lowers;
      cases = cases_of a;
      accepted = accepted;
      answers = k.out;
      answered = subst (λ o. AnswersAll (declarations (program_in a)) (rules_of (program_in a)) ls o k.out) h k.answers;
      out_is = k.out_is ∙ ap (λ x. x ++ k.out) (g ∙ (λ i. accepted_text (f i) (q i) ++ 10 ∷ []))
          ∙ append_assoc (accepted_text (length (rules_of (program_in a))) (cases_of a)) (10 ∷ []) k.out;
    }

-- the line of a refused program is its output
pub refused_by : (p : Program) (wanted : Wanted) (ls : List (List ℕ)) (status : Status) (out line : List ℕ) → status
    ≡ Refused → out ≡ line → IsRefusedByWeights (declarations p) (rules_of p) line ⊎ IsRefusedByOverlaps wanted.coverage
    (declarations p) (rules_of p) line → IsReadOutput (Ok p) wanted ls status out
refused_by p wanted ls status out line e f h = rw (e, f) h

-- what a text is read to decides its output
pub read_output : (verb : Verb) (wanted : Wanted) (input text : List ℕ) (rest commands : Option (Bor (List ℕ)))
    (answer : Result Program ReadFault) (status : Status) (out : List ℕ)
    → text ≡ text_of (lines input) → commands_of (lines input) ≡ lines_left rest → lines_left commands
    ≡ asked verb (lines_left rest)
    → IsAnswer text answer → IsReadOutput answer wanted (lines_left commands) status out
    → IsOutput verb wanted input status out
read_output verb wanted input text rest commands answer status out e f g a h = (
  answer,
  subst (λ x. IsAnswer x answer) e a,
  subst (λ cs. IsReadOutput answer wanted cs status out)
      (g ∙ ap (asked verb) (sym f)) h,
)

pub if_ok : {A E : Type 0} {P Q : A → Type 0} (r : Result A E) → ((x : A) → P x → Q x) → IfOk r P → IfOk r Q
if_ok (Ok x) f h = f x h
if_ok (Err e) f h = tt
