-- Along runs replicas stay sound.
use Rattle.std.specs.Prelude.{ℕ, ◌-◌, List, [], ◌∷◌, All}
use Rattle.std.proofs.Common.{◌≡◌, sym, ◌∙◌, subst}
use Rattle.std.proofs.lemmas.List.Elements.{All-set}
use Rattle.std.proofs.lemmas.Option.{same_Some, slice_get_within, get_or_from_slice_get}
use Rattle.chr_base.specs.declared.derivation.Step.{Step as StepValue}
use Rattle.chr_base.specs.declared.program.Program.{Program}
use Rattle.chr_ops.specs.Summaries.{lacking}
use Rattle.chr_replica.specs.declared.refusal.Refusal.TheVariants as refusal
use Rattle.chr_replica.specs.Replicas.{Replica, IsSound}
use Rattle.chr_acts.specs.declared.act.Act.TheVariants as act
use Rattle.chr_acts.specs.declared.reply.Reply.{Reply}
use Rattle.chr_acts.specs.declared.reply.Reply.TheVariants as reply
use Rattle.chr_acts.proofs.Keeping.{EventsKeep, does_keeps}
use Rattle.chr_worlds.specs.declared.event.Event.{Event}
use Rattle.chr_worlds.specs.declared.event.Event.TheVariants as event
use Rattle.chr_worlds.specs.declared.answer.Answer.{Answer}
use Rattle.chr_worlds.specs.declared.answer.Answer.TheVariants as answer
use Rattle.chr_worlds.specs.Worlds.{Replicas, IsAt, Changes, Works, Happens, Runs}

-- there is one replica of a number
pub one_at : (w : Replicas) (r : ℕ) (s t : Replica) → IsAt w r s → IsAt w r t → s ≡ t
one_at w r s t h g = same_Some s t (sym h.1 ∙ g.1)

works_keeps : EventsKeep → (p : Program) (s : Replica) (number : ℕ) (steps : List StepValue) (x : Reply) (t : Replica)
    → Works p s number steps x t → IsSound p s → IsSound p t
works_keeps k p s number steps reply.WasPut t h sound = k.put p number h.0 h.1 s t h.3 sound
works_keeps k p s number steps (reply.Refused (refusal.NoLease n)) t h sound = subst (IsSound p) (sym h.1) sound
works_keeps k p s number steps (reply.Refused refusal.NotThere) t h sound = subst (IsSound p) (sym h.4) sound
works_keeps k p s number steps _ t h sound = absurd h

-- what holds of all replicas holds of the one of a number
pub holds_at : (P : Replica → Type 0) (w : Replicas) (r : ℕ) (s : Replica) → All P w → IsAt w r s → P s
holds_at P w r s all there =
    subst P (get_or_from_slice_get w (r - 1) s s there.1) (all (r - 1) s (slice_get_within w (r - 1) s there.1))

changes_keeps : (p : Program) (w : Replicas) (r : ℕ) (R : Replica → Replica → Type 0) (v : Replicas)
    → ((s t : Replica) → R s t → IsSound p s → IsSound p t) → Changes w r R v → All (IsSound p) w → All (IsSound p) v
changes_keeps p w r R v keep h all =
    subst (All (IsSound p)) (sym h.world)
    (All-set (IsSound p) w (r - 1) h.after (keep h.before h.after h.changed
    (holds_at (IsSound p) w r h.before all h.there)) all)

happens_keeps : EventsKeep → (p : Program) (w : Replicas) (e : Event) (x : Answer) (v : Replicas) → Happens p w e x v
    → All (IsSound p) w → All (IsSound p) v
happens_keeps k p w (event.At r a) (answer.Replied x) v h all =
    changes_keeps p w r _ v (λ s t. does_keeps k p s a x t) h all
happens_keeps k p w (event.At r a) answer.UnknownSymbol v h all = subst (All (IsSound p)) (sym h.2) all
happens_keeps k p w (event.At r a) answer.NoReplica v h all = subst (All (IsSound p)) (sym h.2) all
happens_keeps k p w (event.Sync a b) (answer.Replied x) v h all =
    changes_keeps p w b _ v
    (λ t u g. does_keeps k p t (act.Merge (lacking (h.0).operations g.summary)) x u g.merged) h.2 all
happens_keeps k p w (event.Sync a b) answer.UnknownSymbol v h all = absurd h
happens_keeps k p w (event.Sync a b) answer.NoReplica v h all = subst (All (IsSound p)) (sym h.1) all
happens_keeps k p w (event.Work r number steps) (answer.Replied x) v h all =
    changes_keeps p w r _ v (λ s t. works_keeps k p s number steps.items x t) h all
happens_keeps k p w (event.Work r number steps) answer.UnknownSymbol v h all = absurd h
happens_keeps k p w (event.Work r number steps) answer.NoReplica v h all = subst (All (IsSound p)) (sym h.1) all

pub runs_keep : EventsKeep → (p : Program) (w : Replicas) (es : List Event) (xs : List Answer) (v : Replicas)
    → Runs p w es xs v → All (IsSound p) w → All (IsSound p) v
runs_keep k p w [] [] v h all = subst (All (IsSound p)) (sym h) all
runs_keep k p w (e ∷ es) (x ∷ xs) v h all =
    runs_keep k p h.0 es xs v h.2 (happens_keeps k p w e x h.0 h.1 all)
runs_keep k p w _ _ v h all = absurd h
