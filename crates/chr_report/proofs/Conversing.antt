-- Lines that are answered until the input ends, or a fault comes.
use Rattle.std.proofs.Common.{◌≡◌, ℕ, List, [], ◌∷◌, ◌++◌, length, refl, sym, subst}
use Rattle.std.specs.Prelude.{Option, Some, None, IfSome, Result, Ok, replicate}
use Rattle.std.specs.FinMap as finite
use Rattle.std.specs.Io.KnownBytes.{Appends}
use Rattle.std.proofs.KnownBytes.{Appends-trans}
use Rattle.chr_base.specs.declared.program.Program.{Program}
use Rattle.chr_base.specs.Programs.{declarations, rules_of}
use Rattle.chr_ops.specs.Operations.{Operations}
use Rattle.chr_join.specs.declared.accepted.Accepted.{Accepted}
use Rattle.chr_join.specs.AcceptedPrograms.{cases_of, program_in}
use Rattle.chr_join.specs.Verdicts.{IsAcceptedBy}
use Rattle.chr_read.specs.ProgramTexts.{IsAnswer}
use Rattle.chr_read.specs.declared.fault.ReadFault.{ReadFault}
use Rattle.chr_report.specs.declared.wanted.Wanted.{Wanted}
use Rattle.chr_report.specs.Asked.{replicas_by}
use Rattle.chr_report.specs.declared.running.Status.{Status}
use Rattle.chr_report.specs.declared.running.Status.TheVariants as status
use Rattle.chr_answers.specs.Lines.{lines}
use Rattle.chr_report.specs.Outputs.{IsReadOutput, accepted_text}
use Rattle.chr_answers.specs.Answered.{AnswersRest}
use Rattle.chr_report.specs.working.Serving.{AnswersInput}
use Rattle.chr_report.specs.working.Serving.{IsOpened, WritesText}
use Rattle.chr_report.proofs.Outcomes.{program_answered}

pub some_input : (known : Option (List ℕ)) → (input : List ℕ) × IfSome known (λ all. input ≡ all)
some_input None = ([], tt)
some_input (Some x) = (x, refl)

-- ---- a program

pub program_opened : (a : Accepted) (n m : ℕ) (wanted : Wanted) (start : List Operations) (verdict : List ℕ)
    → IsAcceptedBy wanted.coverage (rules_of (program_in a)) (cases_of a) → n ≡ length (rules_of (program_in a))
    → m ≡ cases_of a → verdict ≡ accepted_text n m ++ 10 ∷ []
    → start ≡ replicate wanted.replicas finite.empty → IsOpened (program_in a) wanted start verdict
program_opened a n m wanted start verdict accepted f q g h commands answers answered =
    let rest : AnswersRest (declarations (program_in a)) (rules_of (program_in a)) commands start verdict
    (verdict ++ answers) = record { out = answers; answers = answered; out_is = refl } in
    program_answered a (program_in a) commands n m wanted start verdict (verdict ++ answers) accepted refl f q g h rest

module _ (p : Program) (wanted : Wanted) (start : List Operations) (verdict : List ℕ)
    (opened : IsOpened p wanted start verdict) where
  pub program_served : (first : List ℕ) (known : Option (List ℕ)) (old middle new : Option (List ℕ))
      → Appends old middle verdict → AnswersInput (declarations p) (rules_of p) first known start (Appends middle new)
      → WritesText (λ answer. answer ≡ Ok p) first known wanted status.Accepted (Appends old new)
  program_served first known old middle new w a = record {
    input = a.input;
    is_read = a.is_read;
    answer = Ok p;
    is_answer = refl;
    out = verdict ++ a.answers;
    output = opened (lines (first ++ a.input)) a.answers a.answered;
    is_written = Appends-trans old middle new _ _ w a.is_written;
  }

-- ---- a text

pub refused_written : (text first : List ℕ) (known : Option (List ℕ)) (wanted : Wanted)
    (answer : Result Program ReadFault) (out : List ℕ) (IsWritten : List ℕ → Type 0) → IsAnswer text answer
    → ((replicas : ℕ) (commands : List (List ℕ)) → IsReadOutput answer (replicas_by wanted.coverage replicas) commands
    status.Refused out) → IsWritten out → WritesText (IsAnswer text) first known wanted status.Refused IsWritten
refused_written text first known wanted answer out IsWritten a h w =
    let i = some_input known in
    record {
      input = i.0;
      is_read = i.1;
      answer = answer;
      is_answer = a;
      out = out;
      output =
          h wanted.replicas (lines (first ++ i.0));
      is_written = w;
    }

pub text_written : (text first : List ℕ) (known : Option (List ℕ)) (wanted : Wanted) (answer : Result Program ReadFault)
    (s : Status) (IsWritten : List ℕ → Type 0) → IsAnswer text answer
    → WritesText (λ a. a ≡ answer) first known wanted s IsWritten
    → WritesText (IsAnswer text) first known wanted s IsWritten
text_written text first known wanted answer s IsWritten a w =
    record {
      input = w.input;
      is_read = w.is_read;
      answer = w.answer;
      is_answer =
          subst (IsAnswer text) (sym w.is_answer) a;
      out = w.out;
      output = w.output;
      is_written = w.is_written;
    }
