-- Lines that are taken, one after another.
use Rattle.std.specs.Prelude.{Box}
use Rattle.std.proofs.Common.{◌≡◌, ℕ, Bool, true, false, Global, Vec, List, [], ◌∷◌, ◌++◌, refl, sym, ap, ◌∙◌}
use Rattle.std.proofs.Common.{append_assoc}
use Rattle.std.proofs.Common.{append-nil, subst}
use Rattle.std.specs.Prelude.{Ok}
use Rattle.chr_base.specs.declared.program.Program.{Program}
use Rattle.chr_base.specs.Programs.{declarations, rules_of}
use Rattle.chr_weights.specs.Weights.{AreLowering, weight_by}
use Rattle.chr_join.specs.AcceptedPrograms.{weighed_of}
use Rattle.chr_read.specs.ProgramTexts.{IsAnswer}
use Rattle.chr_device.specs.declared.words.Verb.{Verb}
use Rattle.chr_answers.specs.declared.service.Service.{Service}
use Rattle.chr_answers.specs.Answered.{AnswersFront, AnswersLine}
use Rattle.chr_answers.specs.Answers.{AnswersAll}
use Rattle.chr_answers.specs.Lines.{lines, without_return}
use Rattle.chr_answers.specs.OneText.{AnswersExist}
use Rattle.chr_answers.specs.Services.{held, served, IsBetweenLines}
use Rattle.chr_answers.proofs.Continuing.{program_of_both}
use Rattle.chr_answers.proofs.Feeds.{lines_last, whole_ended}
use Rattle.chr_answers.proofs.Fronts.{front_begins, front_goes_on, last_is_answered}
use Rattle.chr_answers.proofs.Shortened.{stands_itself, stands_now}
use Rattle.chr_report.specs.declared.running.Status.{Status}
use Rattle.chr_report.specs.declared.running.Status.TheVariants as status
use Rattle.chr_report.specs.declared.turning.Asked.{Asked}
use Rattle.chr_report.specs.declared.turning.Stage.{Stage}
use Rattle.chr_report.specs.declared.turning.Stage.TheVariants as stage
use Rattle.chr_report.specs.Inputs.{commands_of, is_divider, text_of}
use Rattle.chr_report.specs.Outputs.{asked, IsReadOutput}
use Rattle.chr_report.specs.Served.{has_divider}
use Rattle.chr_report.specs.working.Coming.{AnswersNone, AsksAll, AsksNothing, EndsInput, EndsLine, GoesOn, HasCome}
use Rattle.chr_report.specs.working.Coming.{IsAll, IsAt}
use Rattle.chr_report.specs.working.Coming.{IsOutputOf, IsReadyAt, IsStageAfter, StandsAt, TurnsTo, status_at}
use Rattle.chr_report.specs.working.Divided.{AreText, Divides}
use Rattle.chr_report.specs.working.Opened.{IsVerdict, IsVerdictOn, Opens}
use Rattle.chr_report.specs.working.Serving.{IsOpened}
use Rattle.chr_report.proofs.Holding.{line_for}
use Rattle.chr_report.proofs.Texts.{commands_here, commands_later, text_divides, text_grows}

-- ---- verdicts

opens_program : (a : Asked) (t : Box Service Global) (s : Service) (p : Program) (verdict : List ℕ) → t.value ≡ s
    → AsksAll a.verb → AnswersExist → AreLowering (weight_by (declarations p)) (rules_of p) → served s ≡ p
    → IsOpened p a.wanted (held s) verdict → IsVerdict a (Ok p) (stage.Commands t) verdict
opens_program a t s p verdict is all exist lowers e opened =
    let here : Opens a (Ok p) verdict
    (λ commands tail. AnswersAll (declarations p) (rules_of p) commands (held s) tail) =
    record {
      all = all;
      goes = opened;
      exists = λ commands. exist (declarations p) (rules_of p) lowers commands (held s);
    } in
    let there : Opens a (Ok p) verdict
    (λ commands tail. AnswersAll (declarations (served s)) (rules_of (served s)) commands (held s) tail) =
    subst (λ q. Opens a (Ok p) verdict
    (λ commands tail. AnswersAll (declarations q) (rules_of q) commands (held s) tail))
    (sym e) here in
    subst (λ u. Opens a (Ok p) verdict
    (λ commands tail. AnswersAll (declarations (served u)) (rules_of (served u)) commands (held u) tail))
    (sym is) there

checks_program : (a : Asked) (s : Service) (p : Program) (verdict : List ℕ) → AsksNothing a.verb
    → IsOpened p a.wanted (held s) verdict → IsVerdict a (Ok p) stage.Checked verdict
checks_program a s p verdict none opened =
    (none, subst (IsReadOutput (Ok p) a.wanted [] status.Accepted) (append-nil verdict) (opened [] [] refl))

pub opens_at : (a : Asked) (s : Service) (p : Program) (verdict : List ℕ) (now : Stage) → AnswersExist
    → AreLowering (weight_by (declarations p)) (rules_of p) → served s ≡ p → IsOpened p a.wanted (held s) verdict
    → IsStageAfter a.verb s now → IsVerdict a (Ok p) now verdict
opens_at a s p verdict (stage.Text t) exist lowers e opened k = absurd k
opens_at a s p verdict (stage.Commands t) exist lowers e opened k =
    opens_program a t s p verdict k.0 k.1 exist lowers e opened
opens_at a s p verdict stage.Checked exist lowers e opened k = checks_program a s p verdict k opened
opens_at a s p verdict stage.Refused exist lowers e opened k = absurd k

-- after the divider
pub verdict_at : (a : Asked) (text front verdict : List ℕ) (now : Stage) → Divides text front
    → IsVerdictOn a text now verdict → IsAt a front verdict now
verdict_at a text front verdict (stage.Text t) d v = absurd v.2
verdict_at a text front verdict (stage.Commands s) d v = record {
  whole = d.whole;
  divided = d.divider;
  goes = λ more tail k. (
    v.0,
    subst (λ t. IsAnswer t v.0) (sym (d.text_is more)) v.1,
    subst (λ cs. IsReadOutput v.0 a.wanted cs status.Accepted (verdict ++ tail))
        (sym (v.2.all (commands_of (lines (front ++ more))) ∙ d.commands more)) (v.2.goes (lines more) tail k),
  );
  exists = λ more. v.2.exists (lines more);
}
verdict_at a text front verdict stage.Checked d v = (
  v.2.0,
  λ more. (
    v.0,
    subst (λ t. IsAnswer t v.0) (sym (d.text_is more)) v.1,
    subst (λ cs. IsReadOutput v.0 a.wanted cs status.Accepted verdict)
        (sym (v.2.0 (commands_of (lines (front ++ more))))) v.2.1,
  ),
)
verdict_at a text front verdict stage.Refused d v = λ more. (
  v.0,
  subst (λ t. IsAnswer t v.0) (sym (d.text_is more)) v.1,
  v.2 (asked a.verb (commands_of (lines (front ++ more)))),
)

-- at the end of the input
verdict_output : (a : Asked) (input text verdict : List ℕ) (now : Stage) → text_of (lines input) ≡ text
    → commands_of (lines input) ≡ [] → IsVerdictOn a text now verdict → IsOutputOf a input (status_at now) verdict
verdict_output a input text verdict (stage.Text t) e f v = absurd v.2
verdict_output a input text verdict (stage.Commands s) e f v = (
  v.0,
  subst (λ t. IsAnswer t v.0) (sym e) v.1,
  subst (λ cs. IsReadOutput v.0 a.wanted cs status.Accepted verdict) (sym (v.2.all (commands_of (lines input)) ∙ f))
      (subst (IsReadOutput v.0 a.wanted [] status.Accepted) (append-nil verdict) (v.2.goes [] [] refl)),
)
verdict_output a input text verdict stage.Checked e f v = (
  v.0,
  subst (λ t. IsAnswer t v.0) (sym e) v.1,
  subst (λ cs. IsReadOutput v.0 a.wanted cs status.Accepted verdict) (sym (v.2.0 (commands_of (lines input)))) v.2.1,
)
verdict_output a input text verdict stage.Refused e f v = (
  v.0,
  subst (λ t. IsAnswer t v.0) (sym e) v.1,
  v.2 (asked a.verb (commands_of (lines input))),
)

-- ---- lines

none_stands : (now : Stage) → StandsAt now [] []
none_stands (stage.Text t) = refl
none_stands (stage.Commands s) = stands_itself []
none_stands stage.Checked = tt
none_stands stage.Refused = tt

-- a line has ended
whole_come : (a : Asked) (now : Stage) (past out : List ℕ) → IsAt a past out now → HasCome a now [] past out
whole_come a now past out h = record {
  front = past;
  begun = [];
  are = sym (append-nil past);
  held = tt;
  unended = tt;
  stands = none_stands now;
  is_at = h;
}

ended_past : (past front begun : List ℕ) → past ≡ front ++ begun → past ++ 10 ∷ [] ≡ front ++ (begun ++ 10 ∷ [])
ended_past past front begun e = ap (λ b. b ++ 10 ∷ []) e ∙ append_assoc front begun (10 ∷ [])

pub divider_ends : (a : Asked) (t : Vec ℕ Global) (line verdict : List ℕ) (now : Stage) → is_divider line ≡ true
    → IsVerdictOn a t.items now verdict → EndsLine a (stage.Text t) line verdict now
divider_ends a t line verdict now found v past out h =
    let d : Divides t.items (past ++ 10 ∷ []) =
    subst (Divides t.items) (ap (λ l. h.front ++ (l ++ 10 ∷ [])) h.stands ∙ sym (ended_past past h.front h.begun h.are))
    (subst (λ x. Divides x (h.front ++ (line ++ 10 ∷ []))) h.is_at.0
    (text_divides h.front line h.is_at.1 h.held found)) in
    whole_come a now (past ++ 10 ∷ []) (out ++ verdict)
    (subst (λ o. IsAt a (past ++ 10 ∷ []) (o ++ verdict) now) (sym h.is_at.2)
    (verdict_at a t.items (past ++ 10 ∷ []) verdict now d v))

pub text_ends : (a : Asked) (t u : Vec ℕ Global) (line : List ℕ) → is_divider line ≡ false
    → u.items ≡ t.items ++ (line ++ 10 ∷ []) → EndsLine a (stage.Text t) line [] (stage.Text u)
text_ends a t u line apart e past out h =
    let all : h.front ++ (line ++ 10 ∷ []) ≡ past ++ 10 ∷ [] =
    ap (λ l. h.front ++ (l ++ 10 ∷ [])) h.stands ∙ sym (ended_past past h.front h.begun h.are) in
    whole_come a (stage.Text u) (past ++ 10 ∷ []) (out ++ []) (
      sym all ∙ ap (λ f. f ++ (line ++ 10 ∷ [])) h.is_at.0 ∙ sym e,
      subst AreText all (text_grows h.front line h.is_at.1 h.held apart),
      append-nil out ∙ h.is_at.2,
    )

commands_last : (b : Bool) (line : List ℕ) → is_divider line ≡ b → commands_of (line ∷ []) ≡ []
commands_last true line found = commands_here line [] found
commands_last false line apart = commands_later line [] apart

pub input_ends : (a : Asked) (t : Vec ℕ Global) (line all verdict : List ℕ) (now : Stage)
    → all ≡ t.items ++ text_of (line ∷ []) → IsVerdictOn a all now verdict
    → EndsInput a (stage.Text t) line verdict now
input_ends a t line all verdict now e v past out h =
    let parts : past ≡ h.front ++ line = h.are ∙ ap (λ l. h.front ++ l) (sym h.stands) in
    let text : text_of (lines past) ≡ all = ap (λ b. text_of (lines b)) parts ∙ h.is_at.1.text line
    ∙ ap (λ ls. h.front ++ text_of ls) (lines_last line h.held) ∙ ap (λ f. f ++ text_of (line ∷ [])) h.is_at.0
    ∙ sym e in
    let none : commands_of (lines past) ≡ [] = ap (λ b. commands_of (lines b)) parts ∙ h.is_at.1.commands line
    ∙ ap commands_of (lines_last line h.held) ∙ commands_last (is_divider line) line refl in
    subst (λ o. IsOutputOf a past (status_at now) (o ++ verdict)) (sym h.is_at.2)
    (verdict_output a past all verdict now text none v)

-- ---- commands

same_program : (s t : Service) → t.world.accepted ≡ s.world.accepted → served t ≡ served s
same_program s t e = program_of_both s t (served s) e refl

-- the line that has come is answered like what is held of it
whole_line : (a : Asked) (b : Box Service Global) (t : Service) (line text past out : List ℕ)
    (h : HasCome a (stage.Commands b) line past out)
    → AnswersLine (declarations (served b.value)) (rules_of (served b.value)) (held b.value) (without_return line) []
    (held t) text
    → AnswersLine (declarations (served b.value)) (rules_of (served b.value)) (held b.value) (without_return h.begun) []
    (held t) text
whole_line a b t line text past out h g =
    let s = b.value in
    line_for (declarations (served s)) (rules_of (served s)) (without_return line) (without_return h.begun) [] text
    (held s) (held t) (stands_now line h.begun h.stands) g

pub command_ends : (a : Asked) (b c : Box Service Global) (line text : List ℕ) → AnswersExist
    → c.value.world.accepted ≡ b.value.world.accepted
    → AnswersLine (declarations (served b.value)) (rules_of (served b.value)) (held b.value) (without_return line) []
    (held c.value) text
    → EndsLine a (stage.Commands b) line text (stage.Commands c)
command_ends a b c line text exist e g past out h =
    let s = b.value in
    let t = c.value in
    let ds = declarations (served s) in
    let rules = rules_of (served s) in
    let ended = h.begun ++ 10 ∷ [] in
    let one : AnswersFront ds rules ended (held s) text (held t) = front_goes_on ds rules [] h.begun [] text (held s)
    (held s) (held t) h.unended (front_begins ds rules (held s)) (whole_line a b t line text past out h g) in
    let on : GoesOn a ds rules (held t) (h.front ++ ended) (out ++ text) =
    record {
      whole = whole_ended h.front h.begun;
      divided = λ more. ap has_divider (append_assoc h.front ended more) ∙ h.is_at.divided (ended ++ more);
      goes = λ more tail k.
          subst (λ b. IsOutputOf a b status.Accepted ((out ++ text) ++ tail)) (sym (append_assoc h.front ended more))
          (subst (IsOutputOf a (h.front ++ (ended ++ more)) status.Accepted) (sym (append_assoc out text tail))
          (h.is_at.goes (ended ++ more) (text ++ tail) (one more tail k)));
      exists = λ more. exist ds rules (weighed_of s.world.accepted).lowers (lines more) (held t);
    } in
    whole_come a (stage.Commands c) (past ++ 10 ∷ []) (out ++ text)
    (subst (λ past. IsAt a past (out ++ text) (stage.Commands c)) (sym (ended_past past h.front h.begun h.are))
    (subst (λ p. GoesOn a (declarations p) (rules_of p) (held t) (h.front ++ ended) (out ++ text))
    (sym (same_program s t e)) on))

pub command_is_last : (a : Asked) (b c : Box Service Global) (line text : List ℕ)
    → AnswersLine (declarations (served b.value)) (rules_of (served b.value)) (held b.value) (without_return line) []
    (held c.value) text
    → EndsInput a (stage.Commands b) line text (stage.Commands c)
command_is_last a b c line text g past out h =
    let s = b.value in
    let t = c.value in
    let ds = declarations (served s) in
    let rules = rules_of (served s) in
    subst (λ past. IsOutputOf a past status.Accepted (out ++ text)) (sym h.are)
    (h.is_at.goes h.begun text (last_is_answered ds rules [] h.begun [] text (held s) (held s) (held t) h.unended
    (front_begins ds rules (held s)) (whole_line a b t line text past out h g)))

turns_either : (b : Bool) (a : Asked) (old new : Stage) (line text : List ℕ) → EndsLine a old line text new
    → EndsInput a old line text new → TurnsTo b a old line new text
turns_either false a old new line text f g = f
turns_either true a old new line text f g = g

-- ---- where nothing is answered any more

all_after : (a : Asked) (past front begun out more : List ℕ) (s : Status) → past ≡ front ++ begun → IsAll a front s out
    → IsAll a (past ++ more) s out
all_after a past front begun out more s e f rest =
    subst (λ b. IsOutputOf a b s out) (sym (ap (λ b. (b ++ more) ++ rest) e
    ∙ ap (λ b. b ++ rest) (append_assoc front begun more) ∙ append_assoc front (begun ++ more) rest))
    (f ((begun ++ more) ++ rest))

all_output : (a : Asked) (past front begun out : List ℕ) (s : Status) → past ≡ front ++ begun → IsAll a front s out
    → IsOutputOf a past s out
all_output a past front begun out s e f = subst (λ b. IsOutputOf a b s out) (sym e) (f begun)

-- whatever comes is passed over
pub passed_over : (a : Asked) (now : Stage) (line past out bytes : List ℕ) → AnswersNone now
    → HasCome a now line past out → HasCome a now line (past ++ bytes) (out ++ [])
passed_over a (stage.Text t) line past out bytes none h = absurd none
passed_over a (stage.Commands s) line past out bytes none h = absurd none
passed_over a stage.Checked line past out bytes none h = record {
  front = past ++ bytes;
  begun = [];
  are = sym (append-nil (past ++ bytes));
  held = h.held;
  unended = tt;
  stands = tt;
  is_at = subst (λ o. IsAt a (past ++ bytes) o stage.Checked) (sym (append-nil out))
      (h.is_at.0, all_after a past h.front h.begun out bytes status.Accepted h.are h.is_at.1);
}
passed_over a stage.Refused line past out bytes none h = record {
  front = past ++ bytes;
  begun = [];
  are = sym (append-nil (past ++ bytes));
  held = h.held;
  unended = tt;
  stands = tt;
  is_at = subst (λ o. IsAt a (past ++ bytes) o stage.Refused) (sym (append-nil out))
      (all_after a past h.front h.begun out bytes status.Refused h.are h.is_at);
}

pub checked_turns : (b : Bool) (a : Asked) (line : List ℕ) → TurnsTo b a stage.Checked line stage.Checked []
checked_turns false a line = λ past out h. whole_come a stage.Checked (past ++ 10 ∷ []) (out ++ [])
    (subst (λ o. IsAt a (past ++ 10 ∷ []) o stage.Checked) (sym (append-nil out))
    (h.is_at.0, all_after a past h.front h.begun out (10 ∷ []) status.Accepted h.are h.is_at.1))
checked_turns true a line = λ past out h. subst (IsOutputOf a past status.Accepted) (sym (append-nil out))
    (all_output a past h.front h.begun out status.Accepted h.are h.is_at.1)

pub refused_turns : (b : Bool) (a : Asked) (line : List ℕ) → TurnsTo b a stage.Refused line stage.Refused []
refused_turns false a line = λ past out h. whole_come a stage.Refused (past ++ 10 ∷ []) (out ++ [])
    (subst (λ o. IsAt a (past ++ 10 ∷ []) o stage.Refused) (sym (append-nil out))
    (all_after a past h.front h.begun out (10 ∷ []) status.Refused h.are h.is_at))
refused_turns true a line = λ past out h. subst (IsOutputOf a past status.Refused) (sym (append-nil out))
    (all_output a past h.front h.begun out status.Refused h.are h.is_at)

-- ---- a turn at a stage

pub line_turns : (b : Bool) (a : Asked) (old at new : Stage) (line text : List ℕ) → b ≡ false → old ≡ at
    → EndsLine a at line text new → TurnsTo b a old line new text
line_turns b a old at new line text e f k = subst (λ o. TurnsTo b a o line new text) (sym f)
    (subst (λ l. TurnsTo l a at line new text) (sym e) k)

pub input_turns : (b : Bool) (a : Asked) (old at new : Stage) (line text : List ℕ) → b ≡ true → old ≡ at
    → EndsInput a at line text new → TurnsTo b a old line new text
input_turns b a old at new line text e f k = subst (λ o. TurnsTo b a o line new text) (sym f)
    (subst (λ l. TurnsTo l a at line new text) (sym e) k)

pub both_turn : (b : Bool) (a : Asked) (old at new : Stage) (line text : List ℕ) → old ≡ at
    → EndsLine a at line text new × EndsInput a at line text new → TurnsTo b a old line new text
both_turn b a old at new line text f k = subst (λ o. TurnsTo b a o line new text) (sym f)
    (turns_either b a at new line text k.0 k.1)

pub none_turns : (b : Bool) (a : Asked) (old at : Stage) (line : List ℕ) → old ≡ at → TurnsTo b a at line at []
    → TurnsTo b a old line at []
none_turns b a old at line f k = subst (λ o. TurnsTo b a o line at []) (sym f) k

pub ready_after : (verb : Verb) (s : Service) (now : Stage) → IsBetweenLines s → IsStageAfter verb s now
    → IsReadyAt now
ready_after verb s (stage.Text t) ready k = tt
ready_after verb s (stage.Commands u) ready k = subst IsBetweenLines (sym k.0) ready
ready_after verb s stage.Checked ready k = tt
ready_after verb s stage.Refused ready k = tt
