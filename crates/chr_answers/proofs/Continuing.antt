-- Answers of lines, one line after another.
use mathlib.Core.Bool.{true≢false}
use Rattle.std.proofs.Common.{◌≡◌, ℕ, ◌+◌, ◌-◌, ◌<◌, length, take, drop, Bool, false, true, cond, List, [], ◌∷◌, ◌++◌}
use Rattle.std.proofs.Common.{refl, sym, ap, ◌∙◌}
use Rattle.std.proofs.Common.{append_assoc, append-nil, length-append, subst, arith}
use Rattle.std.proofs.lemmas.List.{drop_at, take-append-drop}
use Rattle.std.specs.Prelude.{Result, Ok, Err, IfOk, OnOk, string_bytes}
use Rattle.std.specs.Bool.{OnFalse, OnTrue}
use Rattle.chr_base.specs.declared.program.Program.{Program}
use Rattle.chr_base.specs.Programs.{declarations, rules_of}
use Rattle.chr_ops.specs.Operations.{Operations}
use Rattle.chr_answers.specs.declared.ahead.Ahead.{Ahead}
use Rattle.chr_answers.specs.declared.answering.Answering.{Answering}
use Rattle.chr_answers.specs.declared.request.Request.{Request}
use Rattle.chr_answers.specs.declared.service.Service.{Service}
use Rattle.chr_answers.specs.Lines.{lines, without_return}
use Rattle.chr_answers.specs.Answers.{AnswersAll}
use Rattle.chr_answers.specs.Lines.{AreWholeLines, HasNoFeed}
use Rattle.chr_answers.specs.Answered.{AnswersLine, AddsAnswer, AnswersRest}
use Rattle.chr_answers.specs.working.Obeying.{AddsReply}
use Rattle.chr_answers.specs.Continuing.{AnswersLines, GoesOn}
use Rattle.chr_answers.specs.Lines.{last_bytes}
use Rattle.chr_answers.specs.Requests.{AsksFirst}
use Rattle.chr_answers.specs.Ahead.{IsAhead}
use Rattle.chr_answers.specs.Services.{held, served, IsBetweenLines}
use Rattle.chr_answers.specs.Answered.{AnswersFront}
use Rattle.chr_answers.proofs.Feeds.{whole_left}
use Rattle.chr_answers.proofs.Fronts.{adds, front_begins, front_goes_on, fronts_join, last_is_answered}

-- what comes after the end of the first line of a text's last bytes are last bytes of it
pub last_after : (text line rest : List ℕ) (left : ℕ) → last_bytes left text ≡ line ++ 10 ∷ rest
    → last_bytes (length rest) text ≡ rest
last_after text line rest left e =
    let k = length text - left in
    let before = (take k text ++ line) ++ 10 ∷ [] in
    let whole : before ++ rest ≡ text = append_assoc (take k text ++ line) (10 ∷ []) rest
    ∙ append_assoc (take k text) line (10 ∷ rest) ∙ ap (λ d. take k text ++ d) (sym e) ∙ take-append-drop k text in
    let sizes : length before + length rest ≡ length text = sym (length-append before rest) ∙ ap length whole in
    let size : length before ≡ length text - length rest = omega (arith, sizes) in
    subst (λ t. drop (length text - length rest) t ≡ rest) whole (drop_at before rest (length text - length rest) size)

-- all bytes of a text are its last ones
pub all_left : (text : List ℕ) → last_bytes (length text) text ≡ text
all_left text = let none : length text - length text ≡ 0 = omega arith in ap (λ n. drop n text) none

-- nothing is answered
pub nothing_answered : (text : List ℕ) (s : Answering) → IsBetweenLines s.service → GoesOn text s s
nothing_answered text s ready = record {
  ready = ready;
  program = refl;
  front = [];
  out = [];
  are = refl;
  answers = front_begins (declarations (served s.service)) (rules_of (served s.service)) (held s.service);
  written = sym (append-nil (string_bytes s.out));
}

-- the same program has the same answers
by_program : (s t : Service) (front out : List ℕ) (old now : List Operations) → t.world.accepted ≡ s.world.accepted
    → AnswersFront (declarations (served t)) (rules_of (served t)) front old out now
    → AnswersFront (declarations (served s)) (rules_of (served s)) front old out now
by_program s t front out old now e f = rw e at f

-- some lines, and then some more
pub goes_further : (text : List ℕ) (s t u : Answering) → GoesOn text s t → GoesOn text t u → GoesOn text s u
goes_further text s t u g h = record {
  ready = h.ready;
  program = h.program ∙ g.program;
  front = g.front ++ h.front;
  out = g.out ++ h.out;
  are = g.are ∙ ap (λ r. g.front ++ r) h.are ∙ sym (append_assoc g.front h.front (last_bytes u.left text));
  answers = fronts_join (declarations (served s.service)) (rules_of (served s.service)) g.front h.front g.out h.out
      (held s.service) (held t.service) (held u.service) g.answers
      (by_program s.service t.service h.front h.out (held t.service) (held u.service) g.program h.answers);
  written = h.written ∙ ap (λ o. o ++ h.out) g.written ∙ append_assoc (string_bytes s.out) g.out h.out;
}

-- the first line that is left is answered
pub first_answered : (text : List ℕ) (s t : Answering) (line stripped : List ℕ)
    → last_bytes s.left text ≡ line ++ 10 ∷ last_bytes t.left text → HasNoFeed line → stripped ≡ without_return line
    → IsBetweenLines t.service → t.service.world.accepted ≡ s.service.world.accepted
    → AnswersLine (declarations (served s.service)) (rules_of (served s.service)) (held s.service) stripped
    (string_bytes s.out) (held t.service) (string_bytes t.out)
    → GoesOn text s t
first_answered text s t line stripped split unended strip ready program answers =
    let ds = declarations (served s.service) in
    let rules = rules_of (served s.service) in
    let one = adds ds rules (without_return line) (string_bytes s.out) (string_bytes t.out) (held s.service)
    (held t.service) (subst (λ l. AnswersLine ds rules (held s.service) l (string_bytes s.out) (held t.service)
    (string_bytes t.out)) strip answers) in
    record {
      ready = ready;
      program = program;
      front = line ++ 10 ∷ [];
      out = one.0;
      are = split ∙ sym (append_assoc line (10 ∷ []) (last_bytes t.left text));
      answers = front_goes_on ds rules [] line [] one.0 (held s.service) (held s.service) (held t.service) unended
          (front_begins ds rules (held s.service)) one.1;
      written = one.2;
    }

-- so it is by what was known to be asked
pub known_answered : (text : List ℕ) (s t : Answering) (q : Request)
    → AsksFirst (served s.service) text s.left t.left q
    → IsBetweenLines t.service → t.service.world.accepted ≡ s.service.world.accepted
    → AddsReply (declarations (served s.service)) (rules_of (served s.service)) (held s.service) q
    (string_bytes s.out) (held t.service) (string_bytes t.out)
    → GoesOn text s t
known_answered text s t q known ready program reply =
    let rules = rules_of (served s.service) in
    let answer : AddsAnswer (declarations (served s.service)) rules (held s.service) (without_return known.line)
    (string_bytes s.out) (held t.service) (string_bytes t.out) = record {
      text = reply.text;
      answers = known.asks.answers rules (held s.service) reply.text (held t.service) reply.answers;
      out_is = reply.out_is;
    } in
    first_answered text s t known.line (without_return known.line) known.first known.unended refl ready program
    (rw known.spoken answer)

-- what is heard of the lines of a program is so for the same program
pub ahead_of : (text : List ℕ) (s t : Service) (a : Ahead) → t.world.accepted ≡ s.world.accepted
    → IsAhead (served t) text a → IsAhead (served s) text a
ahead_of text s t a e h = rw e at h

pub program_of_both : (s t : Service) (p : Program) → t.world.accepted ≡ s.world.accepted → served s ≡ p → served t ≡ p
program_of_both s t p e h = rw e h

pub rest_by_program : (s t : Service) (ls : List (List ℕ)) (now : List Operations) (before after : List ℕ)
    → t.world.accepted ≡ s.world.accepted
    → AnswersRest (declarations (served t)) (rules_of (served t)) ls now before after
    → AnswersRest (declarations (served s)) (rules_of (served s)) ls now before after
rest_by_program s t ls now before after e r = rw e at r

-- a line is answered, where one ends in what is left
next_answered : (text : List ℕ) (s t u : Answering) (b : Bool) → GoesOn text s t → OnTrue b (GoesOn text t u)
    → OnFalse b (u ≡ t) → GoesOn text s u
next_answered text s t u true g h same = goes_further text s t u g h
next_answered text s t u false g h same = subst (GoesOn text s) (sym same) g

pub next_goes : {E : Type 0} (text : List ℕ) (s t u : Answering) (r : Result Bool E) → GoesOn text s t
    → IfOk r (λ b. OnTrue b (GoesOn text t u)) → IfOk r (λ b. OnFalse b (u ≡ t)) → OnOk r (GoesOn text s u)
next_goes text s t u (Ok b) g h same = next_answered text s t u b g h same
next_goes text s t u (Err e) g h same = tt

-- what holds where it is not so
pub where_not : {P : Type 0} (b : Bool) → OnFalse b P → b ≡ false → P
where_not true h e = absurd (true≢false e)
where_not false h e = h

pub fewer_left : (t u : Answering) (b c : Bool) → OnTrue b (u.left < t.left) → OnFalse b (u.left ≡ t.left) → c ≡ true
    → u.left + cond b 1 0 < t.left + cond c 1 0
fewer_left t u true c less same e = rw e (omega (arith, less))
fewer_left t u false c less same e = rw e (omega (arith, same))

-- and then what comes after the last line feed of a text
pub all_answered : (text : List ℕ) (s t : Answering) (stripped : List ℕ) (now : List Operations) (out : List ℕ)
    → AnswersLines text s t → stripped ≡ without_return (last_bytes t.left text)
    → AnswersLine (declarations (served t.service)) (rules_of (served t.service)) (held t.service) stripped
    (string_bytes t.out) now out
    → AnswersRest (declarations (served s.service)) (rules_of (served s.service)) (lines text) (held s.service)
    (string_bytes s.out) out
all_answered text s t stripped now out a strip last =
    let ds = declarations (served s.service) in
    let rules = rules_of (served s.service) in
    let line = last_bytes t.left text in
    let program = a.0.program in
    let here : AnswersLine ds rules (held t.service) stripped (string_bytes t.out) now out = rw program at last in
    let one = adds ds rules (without_return line) (string_bytes t.out) out (held t.service) now
    (subst (λ l. AnswersLine ds rules (held t.service) l (string_bytes t.out) now out) strip here) in
    let whole : text ≡ a.0.front ++ line = sym (all_left text) ∙ a.0.are in
    record {
      out = a.0.out ++ one.0;
      answers = subst (λ b. AnswersAll ds rules (lines b) (held s.service) (a.0.out ++ one.0)) (sym whole)
          (last_is_answered ds rules a.0.front line a.0.out one.0 (held s.service) (held t.service) now a.1 a.0.answers
          one.1);
      out_is = one.2 ∙ ap (λ o. o ++ one.0) a.0.written ∙ append_assoc (string_bytes s.out) a.0.out one.0;
    }

-- whole lines are all answered
pub whole_answered : (text : List ℕ) (s t : Answering) → AreWholeLines text → (a : AnswersLines text s t)
    → AnswersFront (declarations (served s.service)) (rules_of (served s.service)) text (held s.service) a.0.out
    (held t.service)
whole_answered text s t w a =
    let line = last_bytes t.left text in
    let whole : text ≡ a.0.front ++ line = sym (all_left text) ∙ a.0.are in
    let none : line ≡ [] = whole_left a.0.front line (subst AreWholeLines whole w) a.1 in
    let all : a.0.front ≡ text = sym (whole ∙ ap (λ l. a.0.front ++ l) none ∙ append-nil a.0.front) in
    subst (λ f. AnswersFront (declarations (served s.service)) (rules_of (served s.service)) f (held s.service) a.0.out
    (held t.service)) all a.0.answers
