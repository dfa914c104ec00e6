-- What is written of an input whose lines are taken as they come.
use Rattle.std.proofs.Common.{◌≡◌, ℕ, List, [], ◌∷◌, ◌++◌, length, refl, sym, ap, ◌∙◌, append-nil, subst, inl, inr}
use Rattle.std.proofs.Common.{arith, true}
use Rattle.std.specs.Prelude.{Option, Some}
use Rattle.std.specs.Io.KnownBytes.{Appends, Consumes}
use Rattle.chr_device.specs.Devices.{AppendsPart}
use Rattle.chr_device.specs.declared.words.Verb.TheVariants.{Run}
use Rattle.chr_run.specs.Answered.{AnswersInput}
use Rattle.chr_run.specs.Written as run
use Rattle.chr_report.specs.declared.coming.Coming.{Coming}
use Rattle.chr_report.specs.declared.running.Status.{Status}
use Rattle.chr_report.specs.declared.running.Status.TheVariants as status
use Rattle.chr_report.specs.declared.turning.Asked.{Asked}
use Rattle.chr_report.specs.declared.turning.Stage.{Stage}
use Rattle.chr_report.specs.declared.turning.Stage.TheVariants as stage
use Rattle.chr_report.specs.Outputs.{asked, IsOutput}
use Rattle.chr_report.specs.Served.{AllAnswered, has_divider}
use Rattle.chr_report.specs.Written.{Writes, WritesBeginning, WritesOutput}
use Rattle.chr_report.specs.working.Coming.{Begins, Ends, Feeds, HasCome, HasComeTo, IsOutputOf, IsRefusedNow}
use Rattle.chr_report.specs.working.Coming.{MayAnswer, status_at}
use Rattle.chr_report.specs.working.Divided.{IsUndivided}
use Rattle.chr_report.proofs.Inputs.{undivided_answered}
use Rattle.chr_report.proofs.Pieces.{part_of_more}

-- ---- all of an input

pub output_written : {F : Type 0} (p q : Coming F) (known : Option (List ℕ)) (s : Status) (IsWritten : List ℕ → Type 0)
    → HasComeTo p [] [] → s ≡ status_at q.stage
    → AnswersInput (λ input text. Ends p input text q) [] known IsWritten
    → Writes known p.asked.verb p.asked.wanted s IsWritten
output_written p q known s IsWritten none e a = record {
  input = a.input;
  is_read = a.is_read;
  out = a.text;
  is_output = subst (λ s. IsOutputOf p.asked a.input s a.text) (sym e) (a.answers [] [] none);
  is_written = a.is_written;
}

no_front : (front rest : List ℕ) → [] ≡ front ++ rest → front ≡ []
no_front [] rest e = refl
no_front (x ∷ xs) rest e = let size = ap length e in absurd (omega (arith, size))

part_of_none : (old new : Option (List ℕ)) (text : List ℕ) → text ≡ [] → AppendsPart old new text → Appends old new []
part_of_none old new text e p = subst (Appends old new) (no_front p.0 p.1 (sym e ∙ p.2)) p.3

pub beginning_written : {F : Type 0} (p : Coming F) (known old new : Option (List ℕ)) → HasComeTo p [] []
    → run.WritesBeginning (MayAnswer p) known old new
    → WritesBeginning known old new p.asked.verb p.asked.wanted
beginning_written p known old new none (inl w) = inl w
beginning_written p known old new none (inr a) = by (a.answers [] [] none)
  where
    by : Begins p.asked a.input a.text → WritesBeginning known old new p.asked.verb p.asked.wanted
    by (inl e) = inl (part_of_none old new a.text e a.is_written)
    by (inr (s, tail, o)) =
        let part : Writes known p.asked.verb p.asked.wanted s (AppendsPart old new) =
        record {
          input = a.input;
          is_read = a.is_read;
          out = a.text ++ tail;
          is_output = o;
          is_written = part_of_more old new a.text tail a.is_written;
        } in
        inr (s, part)

-- ---- whole lines

module _ (a : Asked) (line past out : List ℕ) (from to old new : Option (List ℕ)) (serves : a.verb ≡ Run)
    (read : Consumes from to past) (wrote : Appends old new out) where
  due : (now : Stage) → ¬ (now ≡ stage.Refused) → HasCome a now line past out → AllAnswered from to old new a.wanted
  due (stage.Text t) more h =
      let u : IsUndivided past = record {
        front = h.front;
        line = h.begun;
        are = h.are;
        begins = h.is_at.1;
        unended = h.unended;
      } in
      undivided_answered from to past a.wanted old new read u (subst (Appends old new) h.is_at.2 wrote)
  due (stage.Commands s) more h =
      let front = h.front in
      let here : IsOutputOf a front status.Accepted out =
      subst (λ b. IsOutputOf a b status.Accepted out) (append-nil front)
      (subst (IsOutputOf a (front ++ []) status.Accepted) (append-nil out) (h.is_at.goes [] [] refl)) in
      let all : WritesOutput (Some front) old new Run a.wanted status.Accepted =
      record {
        input = front;
        is_read = refl;
        out = out;
        is_output = subst (λ v. IsOutput v a.wanted front status.Accepted out) serves here;
        is_written = wrote;
      } in
      let divided : has_divider front ≡ true = ap has_divider (sym (append-nil front)) ∙ h.is_at.divided [] in
      record {
        front = front;
        line = h.begun;
        read = subst (Consumes from to) h.are read;
        whole = h.is_at.whole;
        unended = h.unended;
        written = rw divided (status.Accepted, all);
      }
  due stage.Checked more h =
      let none : [] ∷ [] ≡ [] = ap (λ v. asked v ([] ∷ [])) (sym serves) ∙ h.is_at.0 ([] ∷ []) in
      let size = ap length none in
      absurd (omega (arith, size))
  due stage.Refused more h = absurd (more refl)

-- while the peer is waited for, all is written that is due
pub all_due : {F : Type 0} (p : Coming F) (from to old new : Option (List ℕ)) → HasComeTo p [] []
    → p.asked.verb ≡ Run → run.AllAnswered (Feeds p) IsRefusedNow from to old new
    → AllAnswered from to old new p.asked.wanted
all_due p from to old new none serves a =
    subst (λ k. AllAnswered from to old new k.wanted) a.answers.0
    (due a.now.asked a.now.line.items a.bytes a.text from to old new (ap (λ k. k.verb) a.answers.0 ∙ serves) a.read
    a.written a.now.stage a.goes_on (a.answers.1 [] [] none))
