-- A replica that comes to rest by workers.
use Rattle.std.proofs.Common.{◌≡◌, ℕ, ◌-◌, inl, inr, sym, ap, ◌∙◌, subst}
use Rattle.std.specs.Prelude.{Option, Some, slice_set}
use Rattle.std.proofs.lemmas.List.Elements.{All-set}
use Rattle.std.proofs.lemmas.Option.{slice_get_within}
use Rattle.chr_base.specs.declared.program.Program.{Program}
use Rattle.chr_columns.proofs.Slices.{slice_set_same}
use Rattle.chr_replica.specs.Replicas.{Replica, IsSettled, IsSound}
use Rattle.chr_worlds.specs.Resting.{RestsAt}
use Rattle.chr_worlds.specs.Worlds.{Replicas, IsAt}
use Rattle.chr_answers.specs.Services.{operations_held, AreBetweenLines}
use Rattle.chr_answers.proofs.Held.{same_held, has_one}

-- the replica of a number after a change
changed_at : (w : Replicas) (r : ℕ) (s t u : Replica) → IsAt w r s → IsAt (slice_set w (r - 1) t) r u → t ≡ u
changed_at w r s t u there now =
    let e : ◌≡◌ {A = Option Replica} (Some t) (Some u) =
    sym (slice_set_same w (r - 1) t (slice_get_within w (r - 1) s there.1)) ∙ now.1 in
    let same : t ≡ u = cc in
    same

-- it holds what it held
pub rests_held : (p : Program) (w v : Replicas) (r : ℕ) → RestsAt p w r v → operations_held v ≡ operations_held w
rests_held p w v r (inl h) = ap operations_held h.1
rests_held p w v r (inr h) = same_held w v r h.before h.after h.there h.world h.changed.operations

-- it is ready for the next line
pub rests_ready : (p : Program) (w v : Replicas) (r : ℕ) → RestsAt p w r v → AreBetweenLines p w → AreBetweenLines p v
rests_ready p w v r (inl h) ready = subst (AreBetweenLines p) (sym h.1) ready
rests_ready p w v r (inr h) ready =
    subst (AreBetweenLines p) (sym h.world) (All-set (IsSound p) w (r - 1) h.after h.changed.sound ready)

-- and it is at rest
pub rests_at : (p : Program) (w v : Replicas) (r : ℕ) → RestsAt p w r v → (t : Replica) → IsAt v r t → IsSettled p t
rests_at p w v r (inl h) t there = absurd (h.0 (has_one w r t (subst (λ u. IsAt u r t) h.1 there)))
rests_at p w v r (inr h) t there =
    subst (IsSettled p) (changed_at w r h.before h.after t h.there (subst (λ u. IsAt u r t) h.world there))
    h.changed.settled
