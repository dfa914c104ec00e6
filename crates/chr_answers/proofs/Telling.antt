-- What a replica answers to a tell.
use Rattle.std.proofs.Common.{◌≡◌, ℕ, List, codes, refl, sym, ap, ◌∙◌, subst, arith}
use Rattle.std.specs.Prelude.{◌≢◌, Option, Some, None, Result, Ok, Err}
use Rattle.std.specs.Option.{IsSomeAnd}
use Rattle.std.proofs.lemmas.Option.{none-some}
use Rattle.chr_base.specs.declared.program.Program.{Program}
use Rattle.chr_base.specs.ProgramTests.{Declaration}
use Rattle.chr_base.specs.Stores.{Store}
use Rattle.chr_ops.specs.declared.fault.Added.{Added}
use Rattle.chr_ops.specs.declared.fault.Added.TheVariants as added
use Rattle.chr_ops.specs.Operations.{Operation, Operations, IsNew, IsHeld, IsHeldOtherwise}
use Rattle.chr_base.specs.Programs.{declarations}
use Rattle.chr_replica.specs.Refusals.{refusal_number}
use Rattle.chr_replica.specs.declared.refusal.Refusal.{Refusal}
use Rattle.chr_replica.specs.declared.refusal.Refusal.TheVariants as refused
use Rattle.chr_replica.specs.declared.refusal.Limit.TheVariants as limit
use Rattle.chr_replica.specs.Replicas.{Replica, IsDeclared, Tells}
use Rattle.chr_acts.specs.declared.act.Act.TheVariants as act
use Rattle.chr_acts.specs.declared.reply.Reply.TheVariants as reply
use Rattle.chr_acts.specs.Events.{Does}
use Rattle.chr_worlds.specs.Worlds.{Replicas, Happens}
use Rattle.chr_worlds.specs.declared.event.Event.TheVariants as event
use Rattle.chr_worlds.specs.declared.refusal.WorldRefusal.{WorldRefusal}
use Rattle.chr_worlds.specs.declared.refusal.WorldRefusal.TheVariants as denied
use Rattle.chr_worlds.specs.Answers.{told_answer}
use Rattle.chr_answers.specs.declared.reply.Refusal.TheVariants as refusal
use Rattle.chr_answers.specs.Replies.{refusal_text}
use Rattle.chr_answers.specs.declared.reply.Reply.{Reply}
use Rattle.chr_answers.specs.declared.reply.Reply.TheVariants as replies
use Rattle.chr_answers.specs.Answers.{AnswersTell, AnswersAt}
use Rattle.chr_answers.specs.working.ReplyTexts.{number_text, reply_text, told_reply}
use Rattle.chr_answers.specs.Services.{operations_held}
use Rattle.chr_answers.proofs.Held.{answers_at, none_answers}

-- a new operation is neither held nor held otherwise
new_unheld : (m : Operations) (op : Operation) → IsNew m op → ¬ IsHeld m op
new_unheld m op new held = none-some op.1 (sym new ∙ held)

no_other : (x : Option Store) (s : Store) → x ≡ None → ¬ (IsSomeAnd x (λ t. t ≢ s))
no_other x s e h = let k : IsSomeAnd {T = Store} None (λ t. t ≢ s) = subst (λ y. IsSomeAnd y (λ t. t ≢ s)) e h in
    absurd k

no_same : (x : Option Store) (s : Store) → x ≡ Some s → ¬ (IsSomeAnd x (λ t. t ≢ s))
no_same x s e h = let k : IsSomeAnd (Some s) (λ t. t ≢ s) = subst (λ y. IsSomeAnd y (λ t. t ≢ s)) e h in k refl

clash_told : (op : Operation) (old new : Operations) → IsHeldOtherwise old op → new ≡ old
    → AnswersTell op old (refusal_text refusal.Clash) new
clash_told op old new held same = record {
  again = λ h. absurd (no_same _ op.1 h held);
  clash = λ _. (refl, same);
  full = λ h _. absurd (no_other _ op.1 h held);
  told = λ h _. absurd (no_other _ op.1 h held);
}

-- of a new operation
pub new_told : (p : Program) (s : Replica) (op : Operation) (t : Replica) → Tells p s op t
    → AnswersTell op s.operations (codes "told") t.operations
new_told p s op t d = record {
  again = λ h. absurd (new_unheld s.operations op d.new h);
  clash = λ h. absurd (no_other _ op.1 d.new h);
  full = λ _ l. let room = d.room in absurd (omega (arith, l, room));
  told = λ _ _. (refl, ap (λ r. r.operations) d.after);
}

-- of one that is held, or new
does_tell : (ds : List Declaration) (p : Program) (s : Replica) (op : Operation) (x : Added) (t : Replica)
    → Does p s (act.Tell op) (reply.Told x) t
    → AnswersTell op s.operations (reply_text ds (replies.Told x)) t.operations
does_tell ds p s op added.New t d = new_told p s op t d
does_tell ds p s op added.Again t d = record {
  again = λ _. (refl, ap (λ r. r.operations) d.2);
  clash = λ h. absurd (no_same _ op.1 d.1 h);
  full = λ h _. absurd (new_unheld s.operations op h d.1);
  told = λ h _. absurd (new_unheld s.operations op h d.1);
}

-- of one that is refused
refuses_tell : (p : Program) (s : Replica) (op : Operation) (x : Refusal) (t : Replica) → IsDeclared p op
    → Does p s (act.Tell op) (reply.Refused x) t
    → AnswersTell op s.operations (number_text (refusal_number x)) t.operations
refuses_tell p s op refused.UnknownSymbol t declared d = absurd (d.0 declared)
refuses_tell p s op (refused.Clash id) t declared d =
    clash_told op s.operations t.operations d.0.2 (ap (λ r. r.operations) d.2)
refuses_tell p s op (refused.Full limit.Told) t declared d = record {
  again = λ h. absurd (new_unheld s.operations op d.0.1 h);
  clash = λ h. absurd (no_other _ op.1 d.0.1 h);
  full = λ _ _. (refl, ap (λ r. r.operations) d.2);
  told = λ _ l. let over = d.0.2 in absurd (omega (arith, l, over));
}
refuses_tell p s op refused.Memory t declared d = absurd (d.1 refl)
refuses_tell p s op _ t declared d = absurd d.0

-- of an operation whose atoms are declared
pub tell_answers : (ds : List Declaration) (p : Program) (w v : Replicas) (r : ℕ) (op : Operation)
    (x : Result Added WorldRefusal) → IsDeclared p op → Happens p w (event.At r (act.Tell op)) (told_answer x) v
    → AnswersAt (operations_held w) r (AnswersTell op) (reply_text ds (told_reply x)) (operations_held v)
tell_answers ds p w v r op (Ok x) declared h =
    answers_at w v r (AnswersTell op) (reply_text ds (replies.Told x)) h.before h.after h.there h.world
    (does_tell ds p h.before op x h.after h.changed)
tell_answers ds p w v r op (Err (denied.Replica x)) declared h =
    answers_at w v r (AnswersTell op) (number_text (refusal_number x)) h.before h.after h.there h.world
    (refuses_tell p h.before op x h.after declared h.changed)
tell_answers ds p w v r op (Err denied.UnknownSymbol) declared h = absurd (h.1 declared)
tell_answers ds p w v r op (Err denied.NoReplica) declared h = none_answers w v r (AnswersTell op) h.0 h.2

-- of an operation of the program's atoms, after which a pool may be rested
pub told : (p : Program) (w v : Replicas) (new : List Operations) (r : ℕ) (op : Operation)
    (x : Result Added WorldRefusal) (y : Reply) → IsDeclared p op
    → Happens p w (event.At r (act.Tell op)) (told_answer x) v → new ≡ operations_held v → y ≡ told_reply x
    → AnswersAt (operations_held w) r (AnswersTell op) (reply_text (declarations p) y) new
told p w v new r op x y declared h e is =
    subst (λ y. AnswersAt (operations_held w) r (AnswersTell op) (reply_text (declarations p) y) new) (sym is)
    (subst (AnswersAt (operations_held w) r (AnswersTell op) (reply_text (declarations p) (told_reply x))) (sym e)
    (tell_answers (declarations p) p w v r op x declared h))
