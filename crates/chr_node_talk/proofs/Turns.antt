-- Lines that are answered: what they change, and what their replies acknowledge.
use Rattle.std.specs.Prelude.{◌≡◌, ◌≢◌, ◌==◌, ℕ, List, [], ◌∷◌, ◌++◌, length, All, Bool, if◌then◌else◌}
use Rattle.std.specs.Prelude.{Option, Result, Ok, Err, IfOk}
use Rattle.std.specs.List.{flat_map}
use Rattle.std.proofs.Common.{refl, sym, ap, subst, ◌∙◌, inl, inr, append_assoc}
use Rattle.std.proofs.lemmas.List.{append-nil}
use Rattle.std.proofs.lemmas.Grind.{flat_map-append}
use Rattle.std.proofs.lemmas.List.Elements.{All-nil, All-cons, All-append, All-push, All-weaker}
use Rattle.chr_base.specs.Programs.{declarations}
use Rattle.chr_ops.specs.Operations.{Operation, Operations, IsHeld}
use Rattle.chr_ops.specs.declared.id.OpId.{OpId}
use Rattle.chr_queries.specs.declared.wanted.Wanted.{Wanted}
use Rattle.chr_node.specs.Nodes.{AreHeldIn}
use Rattle.chr_node.proofs.Keeping.{same_grows, told_grows}
use Rattle.chr_node_laws.proofs.Growing.{inserted_held}
use Rattle.chr_node_lines.specs.Asked.{Asked, tell, last, show, find, count, changes, status, line_asks}
use Rattle.chr_node_lines.specs.declared.fault.Refusal.{Refusal}
use Rattle.chr_node_lines.specs.declared.fault.Refusal.TheVariants as refusal
use Rattle.chr_node_lines.specs.declared.reply.Reply.{Reply}
use Rattle.chr_node_lines.specs.declared.reply.Reply.TheVariants as reply
use Rattle.chr_node_talk.specs.Moments.{Run, Moment, IsSame, Hears, next_id}
use Rattle.chr_node_talk.specs.Answers.{TellAnswers, LastAnswers, ShowAnswers, FindAnswers, CountAnswers}
use Rattle.chr_node_talk.specs.Answers.{ChangesAnswers, StatusAnswers, HeardAnswers, told_by}
use Rattle.chr_node_talk.specs.Answers.{acknowledged_by}
use Rattle.chr_node_talk.specs.Lines.{AnswersLine, Turn, AreAnswered, acknowledged, reply_line, HasNoFeed}
use Rattle.chr_node_talk.specs.Lines.{Answered, Answers, last_end}

-- ---- answers to what is asked

-- what is held stays
tell_grows : (r : Run) (old new : Moment) (n : Option ℕ) (o : Operation) (p : Reply) → TellAnswers r old new n o p
    → AreHeldIn old.operations new.operations
tell_grows r old new n o (reply.Told id) h =
    told_grows old.operations new.operations o (h.2.absent, h.2.operations)
tell_grows r old new n o (reply.Again id) h = same_grows old.operations new.operations h.3.operations
tell_grows r old new n o (reply.Refused e) h = same_grows old.operations new.operations h.1.operations
tell_grows r old new n o other h = absurd h

last_grows : (r : Run) (old new : Moment) (p : Reply) → LastAnswers r old new p
    → AreHeldIn old.operations new.operations
last_grows r old new (reply.Last n) h = same_grows old.operations new.operations h.1.operations
last_grows r old new (reply.Refused e) h = same_grows old.operations new.operations h.1.operations
last_grows r old new other h = absurd h

show_grows : (r : Run) (old new : Moment) (name : Option (List ℕ)) (p : Reply) → ShowAnswers r old new name p
    → AreHeldIn old.operations new.operations
show_grows r old new name (reply.Store s) h = same_grows old.operations new.operations h.3.operations
show_grows r old new name (reply.Refused e) h = same_grows old.operations new.operations h.1.operations
show_grows r old new name other h = absurd h

find_grows : (r : Run) (old new : Moment) (w : Wanted) (p : Reply) → FindAnswers r old new w p
    → AreHeldIn old.operations new.operations
find_grows r old new w (reply.Found s) h = same_grows old.operations new.operations h.3.operations
find_grows r old new w (reply.Refused e) h = same_grows old.operations new.operations h.1.operations
find_grows r old new w other h = absurd h

count_grows : (r : Run) (old new : Moment) (w : Wanted) (p : Reply) → CountAnswers r old new w p
    → AreHeldIn old.operations new.operations
count_grows r old new w (reply.Count n) h = same_grows old.operations new.operations h.3.operations
count_grows r old new w (reply.Refused e) h = same_grows old.operations new.operations h.1.operations
count_grows r old new w other h = absurd h

changes_grows : (r : Run) (old new : Moment) (p : Reply) → ChangesAnswers r old new p
    → AreHeldIn old.operations new.operations
changes_grows r old new (reply.Changed c) h = same_grows old.operations new.operations h.4.operations
changes_grows r old new (reply.Refused e) h = same_grows old.operations new.operations h.1.operations
changes_grows r old new other h = absurd h

status_grows : (r : Run) (old new : Moment) (p : Reply) → StatusAnswers r old new p
    → AreHeldIn old.operations new.operations
status_grows r old new (reply.Status s) h = same_grows old.operations new.operations h.3.operations
status_grows r old new (reply.Refused e) h = same_grows old.operations new.operations h.1.operations
status_grows r old new other h = absurd h

heard_grows : (r : Run) (old new : Moment) (a : Result Asked Refusal) (p : Reply) → HeardAnswers r old new a p
    → AreHeldIn old.operations new.operations
heard_grows r old new (Ok (tell n o)) p h = tell_grows r old new n o p h
heard_grows r old new (Ok last) p h = last_grows r old new p h
heard_grows r old new (Ok (show name)) p h = show_grows r old new name p h
heard_grows r old new (Ok (find w)) p h = find_grows r old new w p h
heard_grows r old new (Ok (count w)) p h = count_grows r old new w p h
heard_grows r old new (Ok changes) p h = changes_grows r old new p h
heard_grows r old new (Ok status) p h = status_grows r old new p h
heard_grows r old new (Err e) p h = same_grows old.operations new.operations h.1.operations

-- the operation is held, and has the origin of the run
abbrev pub IsOwn : Run → Moment → Operation → Type 0
IsOwn r m o = IsHeld m.operations o × (o.0.origin ≡ r.origin)

-- what is told now is held under its id
told_own : (r : Run) (old new : Moment) (n : Option ℕ) (o : Operation) (p : Reply) → TellAnswers r old new n o p
    → All (IsOwn r new) (told_by o p)
told_own r old new n o (reply.Told id) h =
    let held : IsHeld new.operations o =
    subst (λ (m : Operations). IsHeld m o) (sym h.2.operations)
    (inserted_held old.operations o o h.2.absent (inr refl)) in
    let own : IsOwn r new (id, o.1) =
    subst (λ (i : OpId). IsOwn r new (i, o.1)) (sym h.0) (held, h.2.origin) in
    All-cons (IsOwn r new) (id, o.1) [] own (All-nil (IsOwn r new))
told_own r old new n o (reply.Again id) h =
    let own : IsOwn r new (id, o.1) = (same_grows old.operations new.operations h.3.operations (id, o.1) h.2, h.0) in
    All-cons (IsOwn r new) (id, o.1) [] own (All-nil (IsOwn r new))
told_own r old new n o (reply.Last k) h = All-nil (IsOwn r new)
told_own r old new n o (reply.Store s) h = All-nil (IsOwn r new)
told_own r old new n o (reply.Found s) h = All-nil (IsOwn r new)
told_own r old new n o (reply.Count k) h = All-nil (IsOwn r new)
told_own r old new n o (reply.Changed c) h = All-nil (IsOwn r new)
told_own r old new n o (reply.Status s) h = All-nil (IsOwn r new)
told_own r old new n o (reply.Refused e) h = All-nil (IsOwn r new)

heard_own : (r : Run) (old new : Moment) (a : Result Asked Refusal) (p : Reply) → HeardAnswers r old new a p
    → All (IsOwn r new) (acknowledged_by a p)
heard_own r old new (Ok (tell n o)) p h = told_own r old new n o p h
heard_own r old new (Ok last) p h = All-nil (IsOwn r new)
heard_own r old new (Ok (show name)) p h = All-nil (IsOwn r new)
heard_own r old new (Ok (find w)) p h = All-nil (IsOwn r new)
heard_own r old new (Ok (count w)) p h = All-nil (IsOwn r new)
heard_own r old new (Ok changes) p h = All-nil (IsOwn r new)
heard_own r old new (Ok status) p h = All-nil (IsOwn r new)
heard_own r old new (Err e) p h = All-nil (IsOwn r new)

is_same : (m : Moment) → IsSame m m
is_same m = record { operations = refl; last = refl; shown = refl }

-- whatever is asked may be refused for want of memory
pub memory_answers : (r : Run) (m : Moment) (a : Result Asked Refusal)
    → HeardAnswers r m m a (reply.Refused refusal.Memory)
memory_answers r m (Ok (tell n o)) = (inr (inr (inr refl)), is_same m)
memory_answers r m (Ok last) = (refl, is_same m)
memory_answers r m (Ok (show name)) = (refl, is_same m)
memory_answers r m (Ok (find w)) = (refl, is_same m)
memory_answers r m (Ok (count w)) = (refl, is_same m)
memory_answers r m (Ok changes) = (refl, is_same m)
memory_answers r m (Ok status) = (refl, is_same m)
memory_answers r m (Err e) = (inr refl, is_same m)

-- ---- lines

pub if_ok : {A E : Type 0} (P Q : A → Type 0) (r : Result A E) → ((x : A) → P x → Q x) → IfOk r P → IfOk r Q
if_ok P Q (Ok x) f h = f x h
if_ok P Q (Err e) f h = tt

-- what is answered to what a line asks
pub line_heard : (r : Run) (old now new : Moment) (line : List ℕ) (a : Result Asked Refusal) (p : Reply)
    → line_asks (declarations r.program) (next_id r old) line ≡ a → Hears old now → HeardAnswers r now new a p
    → AnswersLine r old line p new
line_heard r old now new line a p is hears h = record {
  now = now;
  hears = hears;
  answers = subst (λ (x : Result Asked Refusal). HeardAnswers r now new x p) (sym is) h;
}

other_refused : (r : Run) (m : Moment) (a : Result Asked Refusal) (e : Refusal) → a ≡ Err e
    → HeardAnswers r m m a (reply.Refused e)
other_refused r m a e is =
    subst (λ (x : Result Asked Refusal). HeardAnswers r m m x (reply.Refused e)) (sym is) (inl refl, is_same m)

refused : (r : Run) (m : Moment) (a : Result Asked Refusal) (e : Refusal) → (e ≢ refusal.Memory → a ≡ Err e)
    → HeardAnswers r m m a (reply.Refused e)
refused r m a refusal.Memory f = memory_answers r m a
refused r m a refusal.BadLine f = other_refused r m a refusal.BadLine (f (λ h. cc))
refused r m a refusal.NoWord f = other_refused r m a refusal.NoWord (f (λ h. cc))
refused r m a refusal.UnknownSymbol f = other_refused r m a refusal.UnknownSymbol (f (λ h. cc))
refused r m a refusal.Clash f = other_refused r m a refusal.Clash (f (λ h. cc))
refused r m a refusal.Full f = other_refused r m a refusal.Full (f (λ h. cc))
refused r m a refusal.NotNext f = other_refused r m a refusal.NotNext (f (λ h. cc))
refused r m a refusal.NoText f = other_refused r m a refusal.NoText (f (λ h. cc))
refused r m a refusal.WrongArguments f = other_refused r m a refusal.WrongArguments (f (λ h. cc))
refused r m a refusal.WrongArity f = other_refused r m a refusal.WrongArity (f (λ h. cc))

-- a line that asks nothing
pub line_refused : (r : Run) (m : Moment) (line : List ℕ) (a : Result Asked Refusal) (e : Refusal)
    → line_asks (declarations r.program) (next_id r m) line ≡ a → (e ≢ refusal.Memory → a ≡ Err e)
    → AnswersLine r m line (reply.Refused e) m
line_refused r m line a e is fails =
    line_heard r m m m line a (reply.Refused e) is (record { grows = λ o held. held; last = refl; shown = refl })
    (refused r m a e fails)

-- what is held stays, line after line
pub turns_grow : (r : Run) (old new : Moment) (ts : List Turn) → AreAnswered r old ts new
    → AreHeldIn old.operations new.operations
turns_grow r old new [] h = same_grows old.operations new.operations (ap (λ (m : Moment). m.operations) h)
turns_grow r old new (t ∷ ts) h = λ o held.
    let l = h.0 in
    let asked = line_asks (declarations r.program) (next_id r old) t.line in
    turns_grow r t.after new ts h.1 o
    (heard_grows r l.now t.after asked t.reply l.answers o (l.hears.grows o held))

-- what the replies acknowledge is held in the end
pub acknowledged_own : (r : Run) (old new : Moment) (ts : List Turn) → AreAnswered r old ts new
    → All (IsOwn r new) (acknowledged r old ts)
acknowledged_own r old new [] h = All-nil (IsOwn r new)
acknowledged_own r old new (t ∷ ts) h =
    let l = h.0 in
    let asked = line_asks (declarations r.program) (next_id r old) t.line in
    let now = heard_own r l.now t.after asked t.reply l.answers in
    let first : All (IsOwn r new) (acknowledged_by asked t.reply) =
    All-weaker (IsOwn r t.after) (IsOwn r new)
    (λ (o : Operation) (own : IsOwn r t.after o). (turns_grow r t.after new ts h.1 o own.0, own.1))
    (acknowledged_by asked t.reply) now in
    All-append (IsOwn r new) (acknowledged_by asked t.reply) (acknowledged r t.after ts) first
    (acknowledged_own r t.after new ts h.1)

-- some lines after others
turns_then : (r : Run) (old now new : Moment) (ts us : List Turn) → AreAnswered r old ts now → AreAnswered r now us new
    → AreAnswered r old (ts ++ us) new
turns_then r old now new [] us h rest = subst (λ (m : Moment). AreAnswered r m us new) h rest
turns_then r old now new (t ∷ ts) us h rest = (h.0, turns_then r t.after now new ts us h.1 rest)

-- ---- bytes

-- no bytes
pub none_answered : (r : Run) (m : Moment) (begun : List ℕ) → Answered r m begun [] [] begun m
none_answered r m begun = record {
  turns = [];
  cut = record {
    are = append-nil begun;
    lines = λ _. All-nil (λ (t : Turn). HasNoFeed t.line);
    rest = λ none. none;
  };
  answered = refl;
  are = refl;
}

-- a byte that ends no line
pub part_answered : (r : Run) (m : Moment) (begun : List ℕ) (b : ℕ) → b ≢ 10
    → Answered r m begun (b ∷ []) [] (begun ++ b ∷ []) m
part_answered r m begun b other = record {
  turns = [];
  cut = record {
    are = refl;
    lines = λ _. All-nil (λ (t : Turn). HasNoFeed t.line);
    rest = λ none. All-push (λ (x : ℕ). x ≢ 10) begun b none other;
  };
  answered = refl;
  are = refl;
}

-- a byte that ends a line
pub line_answered : (r : Run) (old new : Moment) (begun : List ℕ) (p : Reply) → AnswersLine r old begun p new
    → Answered r old begun (10 ∷ []) (reply_line (declarations r.program) p) [] new
line_answered r old new begun p h =
    let turn : Turn = record { line = begun; reply = p; after = new } in
    record {
      turns = turn ∷ [];
      cut = record {
        are = sym (append-nil ((begun ++ 10 ∷ []) ++ []) ∙ append-nil (begun ++ 10 ∷ []));
        lines = λ none.
            All-cons (λ (t : Turn). HasNoFeed t.line) turn [] none (All-nil (λ (t : Turn). HasNoFeed t.line));
        rest = λ _. All-nil (λ (x : ℕ). x ≢ 10);
      };
      answered = (h, refl);
      are = sym (append-nil (reply_line (declarations r.program) p));
    }

-- some bytes after others
pub answered_then : (r : Run) (a b c : Moment) (begun xs text left ys more rest : List ℕ)
    → Answered r a begun xs text left b → Answered r b left ys more rest c
    → Answered r a begun (xs ++ ys) (text ++ more) rest c
answered_then r a b c begun xs text left ys more rest one two =
    let whole : Turn → List ℕ = λ t. t.line ++ 10 ∷ [] in
    let line : Turn → List ℕ = λ t. reply_line (declarations r.program) t.reply in
    let ts = one.turns in
    let us = two.turns in
    record {
      turns = ts ++ us;
      cut = record {
        are =
            sym (append_assoc begun xs ys) ∙ ap (λ (l : List ℕ). l ++ ys) one.cut.are
            ∙ append_assoc (flat_map whole ts) left ys ∙ ap (λ (l : List ℕ). flat_map whole ts ++ l) two.cut.are
            ∙ sym (append_assoc (flat_map whole ts) (flat_map whole us) rest)
            ∙ ap (λ (l : List ℕ). l ++ rest) (sym (flat_map-append whole ts us));
        lines = λ none.
            All-append (λ (t : Turn). HasNoFeed t.line) ts us (one.cut.lines none) (two.cut.lines (one.cut.rest none));
        rest = λ none. two.cut.rest (one.cut.rest none);
      };
      answered = turns_then r a b c ts us one.answered two.answered;
      are =
          ap (λ (l : List ℕ). l ++ more) one.are ∙ ap (λ (l : List ℕ). flat_map line ts ++ l) two.are
          ∙ sym (flat_map-append line ts us);
    }

-- ---- what is kept

-- what is kept of the run's own operations is kept of what a text acknowledges
pub answers_kept : (r : Run) (old new : Moment) (begun bytes text left : List ℕ) (P : Operation → Type 0)
    → ((o : Operation) → IsOwn r new o → P o) → Answered r old begun bytes text left new
    → Answers r old begun bytes text left new P
answers_kept r old new begun bytes text left P kept h = record {
  answered = h;
  kept =
      All-weaker (IsOwn r new) P kept (acknowledged r old h.turns) (acknowledged_own r old new h.turns h.answered);
}

-- where nothing came nothing is acknowledged
pub none_kept : (r : Run) (m : Moment) (begun bytes left : List ℕ) (P : Operation → Type 0) → bytes ≡ [] → left ≡ begun
    → Answers r m begun bytes [] left m P
unfolding none_answered
none_kept r m begun bytes left P none same =
    let here : Answers r m begun [] [] begun m P =
    record { answered = none_answered r m begun; kept = All-nil P } in
    subst (λ (l : List ℕ). Answers r m begun bytes [] l m P) (sym same)
    (subst (λ (l : List ℕ). Answers r m begun l [] begun m P) (sym none) here)

-- the end that a line gets which has begun
pub end_of : (is_empty is : Bool) (xs begun : List ℕ) → is_empty ≡ is → is_empty ≡ (length xs == 0) → xs ≡ begun
    → last_end begun ≡ (if is then [] else 10 ∷ [])
end_of is_empty is xs begun e h same =
    ap (λ (b : Bool). if b then [] else 10 ∷ []) (sym (ap (λ (l : List ℕ). length l == 0) same) ∙ sym h ∙ e)
