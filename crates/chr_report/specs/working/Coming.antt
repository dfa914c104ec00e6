-- What an input stands at of which a beginning has come, and what was written for it.
use Rattle.std.specs.Prelude.{◌≡◌, ℕ, ◌⊎◌, ⊤, List, [], ◌∷◌, ◌++◌, Bool, true, false, Result, IfOk, string_bytes, ◌+◌}
use Rattle.std.specs.Prelude.{◌<◌, length}
use Rattle.std.proofs.Common.{refl, sym, ap, ◌∙◌, append_assoc, append-nil, subst, inl, inr}
use Rattle.std.specs.declared.alloc.AllocError.{AllocError}
use Rattle.chr_base.specs.declared.rule.Rule.{Rule}
use Rattle.chr_base.specs.ProgramTests.{Declaration}
use Rattle.chr_base.specs.Programs.{declarations, rules_of}
use Rattle.chr_device.specs.declared.words.Verb.{Verb}
use Rattle.chr_ops.specs.Operations.{Operations}
use Rattle.chr_answers.specs.declared.service.Service.{Service}
use Rattle.chr_answers.specs.Answers.{AnswersAll}
use Rattle.chr_answers.specs.Lines.{AreWholeLines, HasNoFeed, lines}
use Rattle.chr_answers.specs.Services.{held, served, IsBetweenLines}
use Rattle.chr_answers.specs.Shortened.{StandsFor}
use Rattle.chr_report.specs.declared.running.Status.{Status}
use Rattle.chr_report.specs.declared.running.Status.TheVariants as status
use Rattle.chr_report.specs.declared.coming.Coming.{Coming}
use Rattle.chr_report.specs.declared.turning.Asked.{Asked}
use Rattle.chr_report.specs.declared.turning.Stage.{Stage}
use Rattle.chr_report.specs.declared.turning.Stage.TheVariants as stage
use Rattle.chr_report.specs.declared.turning.Turn.{Turn}
use Rattle.chr_report.specs.Outputs.{asked, IsOutput}
use Rattle.chr_read.specs.declared.reader.TheConstants.{MAX_TEXT}
use Rattle.chr_report.specs.Served.{has_divider}
use Rattle.chr_report.specs.working.Divided.{AreText}

-- ---- stages

-- no command is answered; and all are
abbrev pub AsksNothing : Verb → Type 0
AsksNothing verb = (commands : List (List ℕ)) → asked verb commands ≡ []

abbrev pub AsksAll : Verb → Type 0
AsksAll verb = (commands : List (List ℕ)) → asked verb commands ≡ commands

abbrev pub IsOutputOf : Asked → List ℕ → Status → List ℕ → Type 0
IsOutputOf a input status out = IsOutput a.verb a.wanted input status out

-- after whole lines, of which the first divider is one: what is answered to the commands that come goes on from here
pub record GoesOn (a : Asked) (ds : List Declaration) (rules : List Rule) (now : List Operations) (front out : List ℕ)
    : Type 0 where
  pub whole : AreWholeLines front
  pub divided : (more : List ℕ) → has_divider (front ++ more) ≡ true
  pub goes : (more tail : List ℕ) → AnswersAll ds rules (lines more) now tail
      → IsOutputOf a (front ++ more) status.Accepted (out ++ tail)
  pub exists : (more : List ℕ) → (tail : List ℕ) × AnswersAll ds rules (lines more) now tail

-- whatever comes, this is the output
abbrev pub IsAll : Asked → List ℕ → Status → List ℕ → Type 0
IsAll a front status out = (more : List ℕ) → IsOutputOf a (front ++ more) status out

-- this has come, of which no line is left, and this was written for it
abbrev pub IsAt : Asked → List ℕ → List ℕ → Stage → Type 0
IsAt a front out (stage.Text t) = (front ≡ t.items) × AreText front × (out ≡ [])
IsAt a front out (stage.Commands s) =
    GoesOn a (declarations (served s.value)) (rules_of (served s.value)) (held s.value) front out
IsAt a front out stage.Checked = AsksNothing a.verb × IsAll a front status.Accepted out
IsAt a front out stage.Refused = IsAll a front status.Refused out

-- where these replicas answer commands, or nothing is answered, as is asked
abbrev pub IsStageAfter : Verb → Service → Stage → Type 0
IsStageAfter verb s (stage.Text t) = ⊥
IsStageAfter verb s (stage.Commands u) = (u.value ≡ s) × AsksAll verb
IsStageAfter verb s stage.Checked = AsksNothing verb
IsStageAfter verb s stage.Refused = ⊥

-- the status with which an input ends
abbrev pub status_at : Stage → Status
status_at (stage.Text t) = status.Refused
status_at (stage.Commands s) = status.Accepted
status_at stage.Checked = status.Accepted
status_at stage.Refused = status.Refused

-- what is held stands for the line that has begun
abbrev pub StandsAt : Stage → List ℕ → List ℕ → Type 0
StandsAt (stage.Text t) line begun = line ≡ begun
StandsAt (stage.Commands s) line begun = StandsFor line begun
StandsAt stage.Checked line begun = ⊤
StandsAt stage.Refused line begun = ⊤

-- the program text has ended
abbrev pub IsPastText : Stage → Type 0
IsPastText (stage.Text t) = ⊥
IsPastText (stage.Commands s) = ⊤
IsPastText stage.Checked = ⊤
IsPastText stage.Refused = ⊤

-- no line is answered, whatever comes
abbrev pub AnswersNone : Stage → Type 0
AnswersNone (stage.Text t) = ⊥
AnswersNone (stage.Commands s) = ⊥
AnswersNone stage.Checked = ⊤
AnswersNone stage.Refused = ⊤

-- replicas are between lines
abbrev pub IsReadyAt : Stage → Type 0
IsReadyAt (stage.Text t) = ⊤
IsReadyAt (stage.Commands s) = IsBetweenLines s.value
IsReadyAt stage.Checked = ⊤
IsReadyAt stage.Refused = ⊤

-- this has come, of which `line` is held for a line that has not ended, and this was written for it
pub record HasCome (a : Asked) (now : Stage) (line past out : List ℕ) : Type 0 where
  pub front : List ℕ
  pub begun : List ℕ
  pub are : past ≡ front ++ begun
  pub held : HasNoFeed line
  pub unended : HasNoFeed begun
  pub stands : StandsAt now line begun
  pub is_at : IsAt a front out now

-- ---- turns

-- the line ends, and this text is written
abbrev pub EndsLine : Asked → Stage → List ℕ → List ℕ → Stage → Type 0
EndsLine a old line text new =
    (past out : List ℕ) → HasCome a old line past out → HasCome a new [] (past ++ 10 ∷ []) (out ++ text)

-- the input ends
abbrev pub EndsInput : Asked → Stage → List ℕ → List ℕ → Stage → Type 0
EndsInput a old line text new =
    (past out : List ℕ) → HasCome a old line past out → IsOutputOf a past (status_at new) (out ++ text)

-- a text is added, of which `Is` holds
abbrev pub Adds : List ℕ → List ℕ → (List ℕ → Type 0) → Type 0
Adds before after Is = (text : List ℕ) × (after ≡ before ++ text) × Is text

-- the input ends with the line, or only the line ends
abbrev pub TurnsTo : Bool → Asked → Stage → List ℕ → Stage → List ℕ → Type 0
TurnsTo false a old line new text = EndsLine a old line text new
TurnsTo true a old line new text = EndsInput a old line text new

-- the line of a turn is taken
pub record Takes (a : Asked) (old new : Turn) : Type 0 where
  pub ready : IsReadyAt new.stage
  pub text : List ℕ
  pub added : string_bytes new.held ≡ string_bytes old.held ++ text
  pub taken : TurnsTo old.is_last a old.stage old.line.items new.stage text

-- what is called at each turn
pub record TakesTurns (a : Asked) (pre : Turn → Type 0) (post : Turn → Result Turn AllocError → Type 0) : Type 0 where
  pub may : (t : Turn) → IsReadyAt t.stage → pre t
  pub takes : (t : Turn) (r : Result Turn AllocError) → post t r → IfOk r (Takes a t)

-- ---- all that comes

abbrev pub HasComeTo : {F : Type 0} → Coming F → List ℕ → List ℕ → Type 0
HasComeTo p past out = HasCome p.asked p.stage p.line.items past out

-- whatever has come: fed these bytes it writes this text, and then it is the second one
abbrev pub Feeds : {F : Type 0} → Coming F → List ℕ → List ℕ → Coming F → Type 0
Feeds p bytes text q =
    (q.asked ≡ p.asked) × ((past out : List ℕ) → HasComeTo p past out → HasComeTo q (past ++ bytes) (out ++ text))

-- so it is where these are all bytes
abbrev pub Ends : {F : Type 0} → Coming F → List ℕ → List ℕ → Coming F → Type 0
Ends p bytes text q =
    (past out : List ℕ) → HasComeTo p past out → IsOutputOf p.asked (past ++ bytes) (status_at q.stage) (out ++ text)

-- nothing, or a beginning of an output
abbrev pub Begins : Asked → List ℕ → List ℕ → Type 0
Begins a input out = (out ≡ []) ⊎ ((s : Status) × (tail : List ℕ) × IsOutputOf a input s (out ++ tail))

-- to all these bytes this may be answered, if not more
abbrev pub MayAnswer : {F : Type 0} → Coming F → List ℕ → List ℕ → Type 0
MayAnswer p bytes text = (past out : List ℕ) → HasComeTo p past out → Begins p.asked (past ++ bytes) (out ++ text)

abbrev pub IsRefusedNow : {F : Type 0} → Coming F → Type 0
IsRefusedNow p = p.stage ≡ stage.Refused

-- a turn of the line that is held
abbrev pub TurnEnds : {F : Type 0} → Coming F → Coming F → Bool → List ℕ → Type 0
TurnEnds p q false text = Feeds p (10 ∷ []) text q
TurnEnds p q true text = Ends p [] text q

-- there is more program text than any program has
abbrev pub IsTooLong : Stage → List ℕ → Type 0
IsTooLong (stage.Text t) line = MAX_TEXT + 4 < length t.items + length line
IsTooLong (stage.Commands s) line = ⊥
IsTooLong stage.Checked line = ⊥
IsTooLong stage.Refused line = ⊥

-- ---- laws

regroup : (P : List ℕ → List ℕ → Type 0) (past front rest out x y : List ℕ)
    → P ((past ++ front) ++ rest) ((out ++ x) ++ y) → P (past ++ (front ++ rest)) (out ++ (x ++ y))
regroup P past front rest out x y h =
    subst (λ b. P b (out ++ (x ++ y))) (append_assoc past front rest)
    (subst (P ((past ++ front) ++ rest)) (append_assoc out x y) h)

pub feeds_nothing : {F : Type 0} (p : Coming F) → Feeds p [] [] p
feeds_nothing p = (
  refl,
  λ past out h. subst (λ b. HasComeTo p b (out ++ [])) (sym (append-nil past))
      (subst (HasComeTo p past) (sym (append-nil out)) h),
)

pub feeds_join : {F : Type 0} (p q r : Coming F) (front rest x y : List ℕ) → Feeds p front x q → Feeds q rest y r
    → Feeds p (front ++ rest) (x ++ y) r
feeds_join p q r front rest x y f g = (
  g.0 ∙ f.0,
  λ past out h. regroup (HasComeTo r) past front rest out x y
      (g.1 (past ++ front) (out ++ x) (f.1 past out h)),
)

pub feeds_end : {F : Type 0} (p q r : Coming F) (front rest x y : List ℕ) → Feeds p front x q → Ends q rest y r
    → Ends p (front ++ rest) (x ++ y) r
feeds_end p q r front rest x y f g past out h =
    subst (λ a. IsOutputOf a (past ++ (front ++ rest)) (status_at r.stage) (out ++ (x ++ y))) f.0
    (regroup (λ b o. IsOutputOf q.asked b (status_at r.stage) o) past front rest out x y
    (g (past ++ front) (out ++ x) (f.1 past out h)))

pub feeds_more : {F : Type 0} (p q : Coming F) (front rest x y : List ℕ) → Feeds p front x q → MayAnswer q rest y
    → MayAnswer p (front ++ rest) (x ++ y)
feeds_more p q front rest x y f g past out h =
    subst (λ a. Begins a (past ++ (front ++ rest)) (out ++ (x ++ y))) f.0
    (regroup (Begins q.asked) past front rest out x y (g (past ++ front) (out ++ x) (f.1 past out h)))

pub end_answers : {F : Type 0} (p q : Coming F) (bytes text : List ℕ) → Ends p bytes text q → MayAnswer p bytes text
end_answers p q bytes text e past out h = inr (
  status_at q.stage,
  [],
  subst (IsOutputOf p.asked (past ++ bytes) (status_at q.stage)) (sym (append-nil (out ++ text))) (e past out h),
)

-- what has come, and then more, after the whole lines
come_more : {F : Type 0} (p : Coming F) (past out rest : List ℕ) (h : HasComeTo p past out)
    → h.front ++ (h.begun ++ rest) ≡ past ++ rest
come_more p past out rest h = sym (ap (λ b. b ++ rest) h.are ∙ append_assoc h.front h.begun rest)

pub refused_ends : {F : Type 0} (p : Coming F) (rest : List ℕ) → IsRefusedNow p → Ends p rest [] p
refused_ends p rest e past out h =
    let all : IsAll p.asked h.front status.Refused out = subst (IsAt p.asked h.front out) e h.is_at in
    let ends : IsOutputOf p.asked (past ++ rest) status.Refused out =
    subst (λ b. IsOutputOf p.asked b status.Refused out) (come_more p past out rest h) (all (h.begun ++ rest)) in
    subst (IsOutputOf p.asked (past ++ rest) (status_at p.stage)) (sym (append-nil out))
    (subst (λ s. IsOutputOf p.asked (past ++ rest) (status_at s) out) (sym e) ends)

-- of what is written the output goes on somehow
begins_at : (a : Asked) (now : Stage) (front out more : List ℕ) → IsAt a front out now → Begins a (front ++ more) out
begins_at a (stage.Text t) front out more h = inl h.2
begins_at a (stage.Commands s) front out more h =
    let tail = h.exists more in inr (status.Accepted, tail.0, h.goes more tail.0 tail.1)
begins_at a stage.Checked front out more h =
    inr (status.Accepted, [], subst (IsOutputOf a (front ++ more) status.Accepted) (sym (append-nil out)) (h.1 more))
begins_at a stage.Refused front out more h =
    inr (status.Refused, [], subst (IsOutputOf a (front ++ more) status.Refused) (sym (append-nil out)) (h more))

pub nothing_may_be_answered : {F : Type 0} (p : Coming F) (bytes : List ℕ) → (text : List ℕ) × MayAnswer p bytes text
nothing_may_be_answered p bytes = (
  [],
  λ past out h. subst (Begins p.asked (past ++ bytes)) (sym (append-nil out))
      (subst (λ b. Begins p.asked b out) (come_more p past out bytes h)
      (begins_at p.asked p.stage h.front out (h.begun ++ bytes) h.is_at)),
)
