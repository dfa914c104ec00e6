-- A replica that was rested.
use Rattle.std.proofs.Common.{◌≡◌, ℕ, ◌-◌, false, sym, ap, ◌∙◌, subst}
use Rattle.std.specs.Prelude.{Option, Some, Result, Ok, Err, slice_get}
use Rattle.std.proofs.lemmas.Option.{slice_get_within}
use mathlib.Core.Bool.{true≢false}
use Rattle.chr_base.specs.declared.program.Program.{Program}
use Rattle.chr_columns.proofs.Slices.{slice_set_same}
use Rattle.chr_replica.specs.Replicas.{Replica, IsSettled}
use Rattle.chr_acts.specs.declared.act.Act.TheVariants as act
use Rattle.chr_acts.specs.declared.reply.Reply.{Reply}
use Rattle.chr_acts.specs.declared.reply.Reply.TheVariants as reply
use Rattle.chr_acts.specs.Events.{Does}
use Rattle.chr_join.specs.AcceptedPrograms.{program_in}
use Rattle.chr_worlds.specs.Sharing.{Shared, shared_program}
use Rattle.chr_worlds.specs.Worlds.{Replicas, IsAt, Happens}
use Rattle.chr_worlds.specs.declared.event.Event.TheVariants as event
use Rattle.chr_worlds.specs.declared.answer.Answer.{Answer}
use Rattle.chr_worlds.specs.declared.answer.Answer.TheVariants as answer
use Rattle.chr_worlds.specs.declared.refusal.NotSettled.{NotSettled}
use Rattle.chr_worlds.specs.declared.refusal.NotSettled.TheVariants as unsettled
use Rattle.chr_worlds.specs.Answers.{settled_answer}
use Rattle.chr_answers.specs.Services.{operations_held}
use Rattle.chr_answers.specs.working.Resting.{was_stopped, IsIdle}
use Rattle.chr_answers.proofs.Held.{same_held, has_one}

does_settle : (p : Program) (s : Replica) (x : Reply) (t : Replica) → Does p s act.Settle x t → t.operations
    ≡ s.operations
does_settle p s (reply.Refused r) t d = absurd d.0
does_settle p s (reply.Settled n) t d = ap (λ r. r.operations) d.0.after
does_settle p s (reply.Stopped n) t d = ap (λ r. r.operations) d.after
does_settle p s _ t d = absurd d

-- it holds what it held
pub settled_held : (p : Program) (w v : Replicas) (r : ℕ) (x : Answer) → Happens p w (event.At r act.Settle) x v
    → operations_held v ≡ operations_held w
settled_held p w v r (answer.Replied x) h = same_held w v r h.before h.after h.there h.world
    (does_settle p h.before x h.after h.changed)
settled_held p w v r answer.UnknownSymbol h = absurd h.1
settled_held p w v r answer.NoReplica h = ap operations_held h.2

-- and is at rest, where it was not stopped and no part was out
pub settled_rests : (p : Program) (w v : Replicas) (r : ℕ) (x : Result ℕ NotSettled) → was_stopped x ≡ false
    → Happens p w (event.At r act.Settle) (settled_answer x) v → ((s : Replica) → IsAt w r s → IsIdle s)
    → (t : Replica) → IsAt v r t → IsSettled p t
settled_rests p w v r (Ok n) went h idle t there =
    let e : ◌≡◌ {A = Option Replica} (Some h.after) (Some t) =
    sym (slice_set_same w (r - 1) h.after (slice_get_within w (r - 1) h.before h.there.1))
    ∙ sym (ap (λ l. slice_get l (r - 1)) h.world) ∙ there.1 in
    let same : h.after ≡ t = cc in
    subst (IsSettled p) same (ap (λ r. r.out) h.changed.0.after ∙ idle h.before h.there, h.changed.1)
settled_rests p w v r (Err (unsettled.Stopped n)) went h idle t there = absurd (true≢false went)
settled_rests p w v r (Err unsettled.NoReplica) went h idle t there =
    absurd (h.0 (has_one w r t (subst (λ u. IsAt u r t) h.2 there)))

-- the replicas that a run has after it
pub rested : (w v u : Shared) (r : ℕ) (x : Result ℕ NotSettled) → was_stopped x ≡ false → v.accepted ≡ w.accepted
    → Happens (shared_program w) w.replicas (event.At r act.Settle) (settled_answer x) v.replicas → u ≡ v
    → ((s : Replica) → IsAt w.replicas r s → IsIdle s)
    → (t : Replica) → IsAt u.replicas r t → IsSettled (shared_program u) t
rested w v u r x went same h e idle =
    subst (λ z. (t : Replica) → IsAt z.replicas r t → IsSettled (shared_program z) t) (sym e)
    (subst (λ a. (t : Replica) → IsAt v.replicas r t → IsSettled (program_in a) t) (sym same)
    (settled_rests (shared_program w) w.replicas v.replicas r x went h idle))
