-- Replicas that are told operations which were rested before, and the answers.
use Rattle.std.proofs.Common.{◌≡◌, ℕ, zero, suc, ◌+◌, ◌-◌, List, [], ◌∷◌, ◌++◌, length, refl, sym, ap, ◌∙◌, subst}
use Rattle.std.proofs.Common.{append_assoc, append-nil, arith, codes}
use Rattle.std.specs.Prelude.{Option, Some, None, MatchOption}
use Rattle.std.specs.Prelude.{slice_get, slice_set, string_bytes}
use Rattle.std.proofs.lemmas.List.{map-set, set-set}
use Rattle.std.proofs.lemmas.List.Elements.{All-set}
use Rattle.std.proofs.lemmas.Option.{none-some, slice_get_within}
use Rattle.chr_base.specs.declared.program.Program.{Program}
use Rattle.chr_base.specs.declared.rule.Rule.{Rule}
use Rattle.chr_base.specs.Programs.{declarations, rules_of}
use Rattle.chr_base.specs.Stores.{Store}
use Rattle.chr_columns.proofs.Slices.{slice_set_same}
use Rattle.chr_ops.specs.Operations.{Operation, Operations}
use Rattle.chr_replica.specs.Replicas.{Replica, IsSound, TellsEach, TellsRested}
use Rattle.chr_replica.proofs.RestedTells.{back_holds, rested_keeps, settled_holds}
use Rattle.chr_worlds.specs.Worlds.{Replicas, Changes}
use Rattle.chr_answers.specs.Answers.{held_by, AnswersAt, AnswersRefusal, AnswersTell, OneAnswers}
use Rattle.chr_answers.specs.Lines.{without_return}
use Rattle.chr_answers.specs.declared.answering.Answering.{Answering}
use Rattle.chr_answers.specs.declared.reply.Refusal.TheVariants as refusal
use Rattle.chr_answers.specs.declared.request.Request.TheVariants as request
use Rattle.chr_answers.specs.Answered.{AddsAnswer, AnswersLine}
use Rattle.chr_answers.specs.Continuing.{GoesOn}
use Rattle.chr_answers.specs.Gathered.{TellFirst}
use Rattle.chr_answers.specs.Lines.{last_bytes}
use Rattle.chr_answers.specs.working.Obeying.{HoldsMore}
use Rattle.chr_answers.specs.working.ReplyTexts.{told_lines}
use Rattle.chr_answers.specs.Requests.{AsksFirst}
use Rattle.chr_answers.specs.Services.{held, operations_held, served, AreBetweenLines, IsBetweenLines}
use Rattle.chr_answers.specs.working.Resting.{TellsAt, TellsSoundly}
use Rattle.chr_answers.specs.Answered.{AnswersFront}
use Rattle.chr_answers.proofs.BetweenLines.{ready_at}
use Rattle.chr_answers.proofs.Held.{held_as, held_at, same_set}
use Rattle.chr_answers.proofs.Fronts.{front_begins, front_goes_on, fronts_join}
use Rattle.chr_answers.proofs.Telling.{new_told}

-- ---- a replica that is told them

-- what was rested of what it was told takes part in no answer
rested_soundly : (p : Program) (carried : Option ℕ) (ops : List Operation) (rested : Store) (lease : Option ℕ)
    (s t : Replica) → IsSound p s → TellsRested p s carried ops rested lease t → TellsSoundly p ops s t
rested_soundly p carried ops rested lease s t sound h = record {
  start = h.back;
  held = back_holds s carried h.back h.comes_back;
  told = h.told;
  tells = h.tells;
  operations = settled_holds p s carried ops rested lease t h;
  sound = rested_keeps p s carried ops rested lease t h sound;
}

pub told_at : (p : Program) (w : Replicas) (r : ℕ) (ops : List Operation) (v : Replicas) (carried : Option ℕ)
    (os : List Operation) (rested : Store) (lease : Option ℕ) → os ≡ ops → AreBetweenLines p w
    → Changes w r (λ s t. TellsRested p s carried os rested lease t) v → TellsAt p w r ops v
told_at p w r ops v carried os rested lease are ready h = record {
  before = h.before;
  after = h.after;
  there = h.there;
  changed = subst (λ l. TellsSoundly p l h.before h.after) are
      (rested_soundly p carried os rested lease h.before h.after (ready_at p w r h.before ready h.there) h.changed);
  world = h.world;
}

pub told_ready : (p : Program) (w : Replicas) (r : ℕ) (ops : List Operation) (v : Replicas) → TellsAt p w r ops v
    → AreBetweenLines p w → AreBetweenLines p v
told_ready p w r ops v h ready = subst (AreBetweenLines p) (sym h.world)
    (All-set (IsSound p) w (r - 1) h.after h.changed.sound ready)

pub holds_more : (p : Program) (w : Replicas) (r : ℕ) (ops : List Operation) (v : Replicas) → TellsAt p w r ops v
    → HoldsMore p (operations_held w) r ops (operations_held v)
holds_more p w r ops v h = record {
  before = h.changed.start;
  after = h.changed.told;
  there = held_at w r h.before h.there ∙ ap Some (sym h.changed.held);
  tells = h.changed.tells;
  others = ap operations_held h.world ∙ map-set (λ t. t.operations) w (r - 1) h.after
      ∙ ap (λ m. slice_set (operations_held w) (r - 1) m) h.changed.operations;
}

-- ---- the answers

held_there : (old : List Operations) (r : ℕ) (m : Operations) → held_by old r ≡ Some m
    → slice_get old (r - 1) ≡ Some m
held_there old zero m h = absurd (none-some m h)
held_there old (suc i) m h = sym (held_as old (suc i) (omega arith)) ∙ h

held_after : (old : List Operations) (r : ℕ) (m n : Operations) → held_by old r ≡ Some m
    → held_by (slice_set old (r - 1) n) r ≡ Some n
held_after old zero m n h = absurd (none-some m h)
held_after old (suc i) m n h =
    held_as (slice_set old (suc i - 1) n) (suc i) (omega arith)
    ∙ slice_set_same old (suc i - 1) n (slice_get_within old (suc i - 1) m (held_there old (suc i) m h))

-- lines of a text are answered, from some place to another
record FrontBetween (p : Program) (rules : List Rule) (text : List ℕ) (left more : ℕ) (old : List Operations)
    (out : List ℕ) (new : List Operations) : Type 0 where
  pub front : List ℕ
  pub are : last_bytes left text ≡ front ++ last_bytes more text
  pub answers : AnswersFront (declarations p) rules front old out new

one_told : (p : Program) (rules : List Rule) (text : List ℕ) (left more r : ℕ) (op : Operation)
    (old : List Operations) (s t : Operations) → AsksFirst p text left more (request.Tell r op)
    → held_by old r ≡ Some s → AnswersTell op s (codes "told") t
    → FrontBetween p rules text left more old (told_lines 1) (slice_set old (r - 1) t)
one_told p rules text left more r op old s t asks there tells =
    let ds = declarations p in
    let new = slice_set old (r - 1) t in
    let one : OneAnswers old r (AnswersTell op) (codes "told") new s =
    record { after = t; answers = tells; others = refl } in
    let answers : AnswersAt old r (AnswersTell op) (codes "told") new =
    subst (λ o. MatchOption o (AnswersRefusal refusal.NoReplica old (codes "told") new)
    (OneAnswers old r (AnswersTell op) (codes "told") new)) (sym there) one in
    let answer : AddsAnswer ds rules old (without_return asks.line) [] new (told_lines 1) =
    record { text = codes "told"; answers = asks.asks.answers rules old (codes "told") new answers; out_is = refl } in
    let line : AnswersLine ds rules old (without_return asks.line) [] new (told_lines 1) = rw asks.spoken answer in
    record {
      front = asks.line ++ 10 ∷ [];
      are = asks.first ∙ sym (append_assoc asks.line (10 ∷ []) (last_bytes more text));
      answers = front_goes_on ds rules [] asks.line [] (told_lines 1) old old new asks.unended
          (front_begins ds rules old) line;
    }

each_told : (p : Program) (rules : List Rule) (text : List ℕ) (r left : ℕ) (ops : List Operation) (more : ℕ)
    (old : List Operations) (s t : Replica) → TellFirst p text r left ops more → held_by old r ≡ Some s.operations
    → TellsEach p s ops t
    → FrontBetween p rules text left more old (told_lines (length ops)) (slice_set old (r - 1) t.operations)
each_told p rules text r left [] more old s t lines there tells =
    let same : slice_set old (r - 1) t.operations ≡ old =
    ap (λ u. slice_set old (r - 1) u.operations) tells
    ∙ same_set old (r - 1) s.operations (held_there old r s.operations there) in
    record {
      front = [];
      are = ap (λ n. last_bytes n text) lines;
      answers = subst (AnswersFront (declarations p) rules [] old []) (sym same)
          (front_begins (declarations p) rules old);
    }
each_told p rules text r left (op ∷ ops) more old s t lines there tells =
    let u = tells.0 in
    let new = slice_set old (r - 1) u.operations in
    let one = one_told p rules text left lines.0 r op old s.operations u.operations lines.1 there
    (new_told p s op u tells.1) in
    let rest = each_told p rules text r lines.0 ops more new u t lines.2
    (held_after old r s.operations u.operations there) tells.2 in
    record {
      front = one.front ++ rest.front;
      are = one.are ∙ ap (λ b. one.front ++ b) rest.are
          ∙ sym (append_assoc one.front rest.front (last_bytes more text));
      answers = subst (AnswersFront (declarations p) rules (one.front ++ rest.front) old
          (told_lines (suc (length ops)))) (set-set old (r - 1) u.operations t.operations)
          (fronts_join (declarations p) rules one.front rest.front (told_lines 1) (told_lines (length ops)) old new
          (slice_set new (r - 1) t.operations) one.answers rest.answers);
    }

-- all of the lines that tell them are answered
pub told_ahead : (text : List ℕ) (s t : Answering) (r : ℕ) (ops : List Operation)
    → TellFirst (served s.service) text r s.left ops t.left
    → HoldsMore (served s.service) (held s.service) r ops (held t.service) → IsBetweenLines t.service
    → t.service.world.accepted ≡ s.service.world.accepted
    → string_bytes t.out ≡ string_bytes s.out ++ told_lines (length ops) → GoesOn text s t
told_ahead text s t r ops lines more ready program written =
    let p = served s.service in
    let all = each_told p (rules_of p) text r s.left ops t.left (held s.service) more.before more.after lines
    more.there more.tells in
    record {
      ready = ready;
      program = program;
      front = all.front;
      out = told_lines (length ops);
      are = all.are;
      answers = subst (AnswersFront (declarations p) (rules_of p) all.front (held s.service)
          (told_lines (length ops))) (sym more.others) all.answers;
      written = written;
    }

-- none of them is
pub none_ahead : (text : List ℕ) (s t : Answering) → held t.service ≡ held s.service → IsBetweenLines t.service
    → t.service.world.accepted ≡ s.service.world.accepted → t.out ≡ s.out → t.left ≡ s.left → GoesOn text s t
none_ahead text s t same ready program out left =
    let p = served s.service in
    record {
      ready = ready;
      program = program;
      front = [];
      out = [];
      are = ap (λ n. last_bytes n text) (sym left);
      answers = subst (AnswersFront (declarations p) (rules_of p) [] (held s.service) []) (sym same)
          (front_begins (declarations p) (rules_of p) (held s.service));
      written = ap string_bytes out ∙ sym (append-nil (string_bytes s.out));
    }

-- one answer more
pub told_push : (n : ℕ) → told_lines n ++ (codes "told" ++ 10 ∷ []) ≡ told_lines (n + 1)
told_push n = let more : suc n ≡ n + 1 = omega arith in by n ∙ ap told_lines more
  where
    by : (k : ℕ) → told_lines k ++ (codes "told" ++ 10 ∷ []) ≡ told_lines (suc k)
    by zero = refl
    by (suc k) = append_assoc (told_lines 1) (told_lines k) (told_lines 1) ∙ ap (λ l. told_lines 1 ++ l) (by k)
