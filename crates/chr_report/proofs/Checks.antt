-- The verdict alone.
use Rattle.std.proofs.Common.{◌≡◌, ℕ, List, [], ◌∷◌, ◌++◌, length, Ok, Err, refl, sym, ◌∙◌, append_assoc, append-nil}
use Rattle.chr_base.specs.declared.program.Program.{Program}
use Rattle.chr_base.specs.Programs.{rules_of}
use Rattle.std.specs.Prelude.{Result}
use Rattle.chr_read.specs.declared.fault.ReadFault.{ReadFault}
use Rattle.chr_report.specs.declared.wanted.Wanted.{Wanted}
use Rattle.chr_report.specs.declared.running.Status.{Status}
use Rattle.chr_report.specs.declared.running.Status.TheVariants.{Accepted, Refused}
use Rattle.chr_answers.specs.Lines.{lines}
use Rattle.chr_report.specs.Inputs.{commands_of}
use Rattle.chr_report.specs.Outputs.{IsReadOutput, accepted_text}
use Rattle.chr_report.specs.Laws.{ChecksBeginRuns}

-- a text that begins with a verdict, after which come answers
abbrev Begins : (List ℕ → Type 0) → List ℕ → Type 0
Begins IsVerdict out = (verdict : List ℕ) × (answers : List ℕ) × (out ≡ verdict ++ answers) × IsVerdict verdict

program_begins : (p : Program) (wanted : Wanted) (ls : List (List ℕ)) (status : Status) (out : List ℕ)
    → IsReadOutput (Ok p) wanted ls status out → Begins (IsReadOutput (Ok p) wanted [] status) out
program_begins p wanted ls Accepted out h =
    let line = accepted_text (length (rules_of p)) h.cases in (
      line ++ 10 ∷ [],
      h.answers,
      h.out_is ∙ sym (append_assoc line (10 ∷ []) h.answers),
      record {
        lowers = h.lowers;
        cases = h.cases;
        accepted = h.accepted;
        answers = [];
        answered = refl;
        out_is =
            refl;
      },
    )
program_begins p wanted ls Refused out h = (out, [], sym (append-nil out), h)

read_begins : (answer : Result Program ReadFault) (wanted : Wanted) (ls : List (List ℕ)) (status : Status)
    (out : List ℕ) → IsReadOutput answer wanted ls status out → Begins (IsReadOutput answer wanted [] status) out
read_begins (Ok p) wanted ls status out h = program_begins p wanted ls status out h
read_begins (Err e) wanted ls status out h = (out, [], sym (append-nil out), h)

pub checks_begin_runs : ChecksBeginRuns
checks_begin_runs wanted input status out (answer, a, h) = let b =
    read_begins answer wanted (commands_of (lines input)) status out h in (b.0, b.1, b.2, (answer, a, b.3))
