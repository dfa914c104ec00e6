-- Bytes that come after others.
use Rattle.std.proofs.Common.{◌≡◌, ℕ, ◌+◌, ◌-◌, ◌<◌, ◌≤◌, Global, Vec, Bool, true, false, List, [], ◌∷◌, ◌++◌, length}
use Rattle.std.proofs.Common.{drop, take}
use Rattle.std.proofs.Common.{refl, sym, ap, ◌∙◌, append_assoc, append-nil, length-append, subst, arith}
use Rattle.std.specs.Prelude.{Result, Ok, Err, OnOk}
use Rattle.std.proofs.lemmas.List.{drop-drop, length-drop, take-append-drop, take_all}
use Rattle.chr_answers.specs.Lines.{HasNoFeed, lines}
use Rattle.chr_answers.specs.Shortened.{StandsFor}
use Rattle.chr_answers.proofs.Feeds.{none_in_both}
use Rattle.chr_answers.proofs.Shortened.{stands_after, stands_more}
use Rattle.chr_read.specs.declared.reader.TheConstants.{MAX_TEXT}
use Rattle.chr_report.specs.declared.coming.Coming.{Coming}
use Rattle.chr_report.specs.declared.running.Status.TheVariants as status
use Rattle.chr_report.specs.declared.turning.Asked.{Asked}
use Rattle.chr_report.specs.declared.turning.Stage.{Stage}
use Rattle.chr_report.specs.declared.turning.Stage.TheVariants as stage
use Rattle.chr_report.specs.Inputs.{text_of}
use Rattle.chr_report.specs.working.Coming.{Adds, Ends, Feeds, HasCome, HasComeTo, IsAt, IsOutputOf, IsPastText}
use Rattle.chr_report.specs.working.Coming.{IsTooLong, StandsAt, TurnEnds, TurnsTo, feeds_join, status_at}
use Rattle.chr_report.specs.working.Divided.{IsUndivided}
use Rattle.chr_run.specs.Answered.{AnswersSome}
use Rattle.chr_report.proofs.Cutting.{take_front}
use Rattle.chr_report.proofs.Texts.{no_text}
use Rattle.chr_report.proofs.Inputs.{text_too_long, too_long_output, too_long_refused}

-- ---- what is held of a line

pub stands_on : (now : Stage) (line begun more : List ℕ) → StandsAt now line begun
    → StandsAt now (line ++ more) (begun ++ more)
stands_on (stage.Text t) line begun more s = ap (λ l. l ++ more) s
stands_on (stage.Commands t) line begun more s = stands_more line begun more s
stands_on stage.Checked line begun more s = tt
stands_on stage.Refused line begun more s = tt

pub stands_cut : (now : Stage) (cut line begun : List ℕ) → IsPastText now → StandsFor cut line
    → StandsAt now line begun → StandsAt now cut begun
stands_cut (stage.Text t) cut line begun past f s = absurd past
stands_cut (stage.Commands t) cut line begun past f s = stands_after cut line begun f s
stands_cut stage.Checked cut line begun past f s = tt
stands_cut stage.Refused cut line begun past f s = tt

-- more of a line has come
pub come_on : (a : Asked) (now : Stage) (line more past out : List ℕ) → HasNoFeed more → HasCome a now line past out
    → HasCome a now (line ++ more) (past ++ more) (out ++ [])
come_on a now line more past out m h = record {
  front = h.front;
  begun = h.begun ++ more;
  are = ap (λ b. b ++ more) h.are ∙ append_assoc h.front h.begun more;
  held = none_in_both line more h.held m;
  unended = none_in_both h.begun more h.unended m;
  stands = stands_on now line h.begun more h.stands;
  is_at = subst (λ o. IsAt a h.front o now) (sym (append-nil out)) h.is_at;
}

-- what is held of it is cut
pub come_cut : (a : Asked) (now : Stage) (cut line past out : List ℕ) → IsPastText now → StandsFor cut line
    → HasNoFeed cut → HasCome a now line past out → HasCome a now cut past out
come_cut a now cut line past out after f n h = record {
  front = h.front;
  begun = h.begun;
  are = h.are;
  held = n;
  unended = h.unended;
  stands = stands_cut now cut line h.begun after f h.stands;
  is_at = h.is_at;
}

-- ---- program text that is too long

-- what has come is program text, and is longer than any
comes_long : (a : Asked) (now : Stage) (line past out : List ℕ) → IsTooLong now line → HasCome a now line past out
    → IsUndivided past × (MAX_TEXT + 4 < length past)
comes_long a (stage.Text t) line past out l h =
    let u : IsUndivided past = record {
      front = h.front;
      line = h.begun;
      are = h.are;
      begins = h.is_at.1;
      unended = h.unended;
    } in
    let size : length past ≡ length t.items + length line = ap length h.are ∙ length-append h.front h.begun
    ∙ ap (λ f. length f + length h.begun) h.is_at.0 ∙ ap (λ b. length t.items + length b) (sym h.stands) in
    (u, subst (λ n. MAX_TEXT + 4 < n) (sym size) l)
comes_long a (stage.Commands s) line past out l h = absurd l
comes_long a stage.Checked line past out l h = absurd l
comes_long a stage.Refused line past out l h = absurd l

-- its output is that of all that begins with it
pub long_is_all : (a : Asked) (now new : Stage) (line past out text : List ℕ) → IsTooLong now line
    → HasCome a now line past out → IsOutputOf a (past ++ []) (status_at new) (out ++ text)
    → HasCome a stage.Refused [] (past ++ []) (out ++ text)
long_is_all a now new line past out text l h o =
    let k = comes_long a now line past out l h in
    let here : MAX_TEXT < length (text_of (lines (past ++ []))) = text_too_long past [] k.0 k.1 in
    let refused : status_at new ≡ status.Refused =
    too_long_refused a.verb (past ++ []) (out ++ text) a.wanted (status_at new) here o in
    record {
      front = past ++ [];
      begun = [];
      are = sym (append-nil (past ++ []));
      held = tt;
      unended = tt;
      stands = tt;
      is_at = λ more. too_long_output a.verb (past ++ []) ((past ++ []) ++ more) (out ++ text) a.wanted status.Refused
          here
          (subst (λ b. MAX_TEXT < length (text_of (lines b))) (sym (append_assoc past [] more))
          (text_too_long past more k.0 k.1))
          (subst (λ s. IsOutputOf a (past ++ []) s (out ++ text)) refused o);
    }

-- ---- turns

pub nothing_come : (a : Asked) (t u : Vec ℕ Global) → t.items ≡ [] → u.items ≡ []
    → HasCome a (stage.Text t) u.items [] []
nothing_come a t u e f = record {
  front = [];
  begun = [];
  are = refl;
  held = subst HasNoFeed (sym f) tt;
  unended = tt;
  stands = f;
  is_at = (sym e, no_text, refl);
}

-- what has come to one input has come to another that stands at the same
come_to : {F : Type 0} (q : Coming F) (a : Asked) (now : Stage) (line past out : List ℕ) → q.asked ≡ a
    → q.stage ≡ now → q.line.items ≡ line → HasCome a now line past out → HasComeTo q past out
come_to q a now line past out e f g h =
    subst (λ b. HasCome b q.stage q.line.items past out) (sym e)
    (subst (λ s. HasCome a s q.line.items past out) (sym f)
    (subst (λ l. HasCome a now l past out) (sym g) h))

pub turn_ends : {F : Type 0} (b : Bool) (p q : Coming F) (new : Stage) (text : List ℕ) → q.asked ≡ p.asked
    → q.stage ≡ new → q.line.items ≡ [] → TurnsTo b p.asked p.stage p.line.items new text → TurnEnds p q b text
turn_ends false p q new text e f g k = (
  e,
  λ past out h. come_to q p.asked new [] (past ++ 10 ∷ []) (out ++ text) e f g
      (k past out h),
)
turn_ends true p q new text e f g k = λ past out h.
    subst (λ b. IsOutputOf p.asked b (status_at q.stage) (out ++ text)) (sym (append-nil past))
    (subst (λ s. IsOutputOf p.asked past (status_at s) (out ++ text)) (sym f) (k past out h))

pub refuses : {F : Type 0} (p m q : Coming F) (text : List ℕ) → IsTooLong p.stage p.line.items → q.asked ≡ p.asked
    → q.stage ≡ stage.Refused → q.line.items ≡ [] → Ends p [] text m → Feeds p [] text q
refuses p m q text l e f g k = (
  e,
  λ past out h. come_to q p.asked stage.Refused [] (past ++ []) (out ++ text) e f g
      (long_is_all p.asked p.stage m.stage p.line.items past out text l h (k past out h)),
)

-- a line that is held and ends
pub line_fed : {F : Type 0} (p m q : Coming F) (more text : List ℕ) → Feeds p more [] m → TurnEnds m q false text
    → Feeds p (more ++ 10 ∷ []) text q
line_fed p m q more text f g = feeds_join p m q more (10 ∷ []) [] text f g

-- bytes that are held
pub holds_more : {F : Type 0} (p q : Coming F) (more : List ℕ) → HasNoFeed more → q.asked ≡ p.asked
    → q.stage ≡ p.stage → q.line.items ≡ p.line.items ++ more → Feeds p more [] q
holds_more p q more n e f g = (
  e,
  λ past out h. come_to q p.asked p.stage (p.line.items ++ more) (past ++ more)
      (out ++ []) e f g (come_on p.asked p.stage p.line.items more past out n h),
)

pub holds_some : {F : Type 0} (p q : Coming F) (more all : List ℕ) → HasNoFeed more → q.asked ≡ p.asked
    → q.stage ≡ p.stage → all ≡ p.line.items ++ more → IsPastText p.stage → StandsFor q.line.items all
    → (HasNoFeed all → HasNoFeed q.line.items) → Feeds p more [] q
holds_some p q more all n e f g after stands none = (
  e,
  λ past out h.
      let come : HasCome p.asked p.stage all (past ++ more) (out ++ []) =
      subst (λ l. HasCome p.asked p.stage l (past ++ more) (out ++ [])) (sym g)
      (come_on p.asked p.stage p.line.items more past out n h) in
      come_to q p.asked p.stage q.line.items (past ++ more) (out ++ []) e f refl
      (come_cut p.asked p.stage q.line.items all (past ++ more) (out ++ []) after stands (none come.held) come),
)

-- ---- bytes

pub all_taken : (bytes : List ℕ) (n : ℕ) → n ≡ length bytes → take n bytes ≡ bytes
all_taken bytes n e = take_all n bytes (omega (arith, e))

pub line_taken : (bytes end rest : List ℕ) (n : ℕ) → bytes ≡ end ++ 10 ∷ rest → n + length rest ≡ length bytes
    → take n bytes ≡ end ++ 10 ∷ []
line_taken bytes end rest n e s =
    let parts : bytes ≡ (end ++ 10 ∷ []) ++ rest = e ∙ sym (append_assoc end (10 ∷ []) rest) in
    let size : length bytes - length rest ≡ n = omega (arith, s) in
    subst (λ k. take k bytes ≡ end ++ 10 ∷ []) size
    (subst (λ b. take (length b - length rest) b ≡ end ++ 10 ∷ []) (sym parts) (take_front (end ++ 10 ∷ []) rest))

-- bytes from a place on
pub from_place : (bytes all : List ℕ) (at : ℕ) → bytes ≡ all → take (length bytes - at) (drop at bytes) ≡ drop at all
from_place bytes all at e = let size = length-drop at bytes in
    take_all (length bytes - at) (drop at bytes) (omega (arith, size)) ∙ ap (drop at) e

pub some_fed : {F : Type 0} (p m q : Coming F) (bytes rest old mid new : List ℕ) (at n : ℕ) → n ≤ length rest
    → rest ≡ drop at bytes → 0 < n → at ≤ length bytes → Adds old mid (λ text. Feeds p (take n rest) text m)
    → Adds mid new (λ text. Feeds m [] text q) → AnswersSome (Feeds p) q bytes at (at + n) old new
some_fed p m q bytes rest old mid new at n within is some start f g =
    let parts : drop at bytes ≡ take n rest ++ drop (at + n) bytes =
    sym (take-append-drop n (drop at bytes)) ∙ ap (λ r. take n r ++ drop n (drop at bytes)) (sym is)
    ∙ ap (λ r. take n rest ++ r) (drop-drop n at bytes) in
    record {
      part = take n rest;
      are = parts;
      text = f.0 ++ g.0;
      answers = subst (λ b. Feeds p b (f.0 ++ g.0) q) (append-nil (take n rest))
          (feeds_join p m q (take n rest) [] f.0 g.0 f.2 g.2);
      grows = g.1 ∙ ap (λ l. l ++ g.0) f.1 ∙ append_assoc old f.0 g.0;
      some = omega (arith, some);
      within = let len = length-drop at bytes in let size = ap length is in omega (arith, within, size, len, start);
    }

pub on_ok : {A E P Q : Type 0} (r : Result A E) → (P → Q) → OnOk r P → OnOk r Q
on_ok (Ok x) f p = f p
on_ok (Err e) f p = tt
