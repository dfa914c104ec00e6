-- Worlds, the events that happen in them, and their runs.
use Rattle.std.specs.Prelude.{◌≡◌, ℕ, ◌-◌, ◌<◌, ◌≤◌, List, [], ◌∷◌, length, Some, slice_get, slice_set}
use Rattle.std.specs.FinMap as map
use Rattle.chr_base.specs.declared.derivation.Step.{Step as StepValue}
use Rattle.chr_base.specs.declared.program.Program.{Program}
use Rattle.chr_base.specs.Programs.{rules_of}
use Rattle.chr_base.specs.Stores.{Store}
use Rattle.chr_ops.specs.declared.range.IdRange.{IdRange}
use Rattle.chr_ops.specs.Summaries.{CoversJust, lacking}
use Rattle.chr_replica.specs.declared.refusal.Refusal.TheVariants as refusal
use Rattle.chr_replica.specs.Refusals.{RefusesRecall}
use Rattle.chr_replica.specs.Replicas.{Replica, first, Puts}
use Rattle.chr_rewrite.specs.Derivations.{IsDerivation, IsFirstInapplicable}
use Rattle.chr_acts.specs.declared.act.Act.{Act}
use Rattle.chr_acts.specs.declared.act.Act.TheVariants as act
use Rattle.chr_acts.specs.declared.reply.Reply.{Reply}
use Rattle.chr_acts.specs.declared.reply.Reply.TheVariants as reply
use Rattle.chr_acts.specs.Events.{Does, RefusesAct}
use Rattle.chr_worlds.specs.declared.event.Event.{Event}
use Rattle.chr_worlds.specs.declared.event.Event.TheVariants as event
use Rattle.chr_worlds.specs.declared.answer.Answer.{Answer}
use Rattle.chr_worlds.specs.declared.answer.Answer.TheVariants as answer

-- replicas of one program, with the numbers 1, 2, ..
abbrev pub Replicas : Type 0
Replicas = List Replica

-- there is a replica of this number
abbrev pub HasReplica : Replicas → ℕ → Type 0
HasReplica w r = (0 < r) × (r ≤ length w)

-- the replica of this number is s
abbrev pub IsAt : Replicas → ℕ → Replica → Type 0
IsAt w r s = (0 < r) × (slice_get w (r - 1) ≡ Some s)

-- the replica of a number changes as the relation says, and no other does
pub record Changes (w : Replicas) (r : ℕ) (R : Replica → Replica → Type 0) (v : Replicas) : Type 0 where
  pub before : Replica
  pub after : Replica
  pub there : IsAt w r before
  pub changed : R before after
  pub world : v ≡ slice_set w (r - 1) after

-- The replica t takes in what the replica s holds beyond a summary of what t holds: it merges that, with the reply, and
-- is u afterwards.
pub record TakesIn (p : Program) (s t : Replica) (x : Reply) (u : Replica) : Type 0 where
  pub summary : List IdRange
  pub covers : CoversJust summary t.operations
  pub merged : Does p t (act.Merge (lacking s.operations summary)) x u

-- The part that the replica s has out under a number comes back after just these steps, with the reply, and s is t
-- afterwards. Where no part is out under it, or some step is no instance at its store, that is refused.
abbrev pub Works : Program → Replica → ℕ → List StepValue → Reply → Replica → Type 0
Works p s number steps reply.WasPut t =
    (part : Store) × (result : Store) × IsDerivation (rules_of p) steps part result × Puts p s number part result t
Works p s number steps (reply.Refused (refusal.NoLease k)) t = RefusesRecall s number (refusal.NoLease k) × (t ≡ s)
Works p s number steps (reply.Refused refusal.NotThere) t =
    (part : Store) × (n : ℕ) × (map.get s.out number ≡ Some part) × IsFirstInapplicable (rules_of p) steps part n
    × (t ≡ s)
Works p s number steps _ t = ⊥

-- an atom of what is asked isn't declared: so each replica says, whatever it holds
abbrev pub AsksUnknown : Program → Act → Type 0
AsksUnknown p a = RefusesAct p first a refusal.UnknownSymbol

-- an event, with its answer, leads from one world of the program p to another
abbrev pub Happens : Program → Replicas → Event → Answer → Replicas → Type 0
Happens p w (event.At r a) (answer.Replied x) v = Changes w r (λ s t. Does p s a x t) v
Happens p w (event.At r a) answer.UnknownSymbol v = (¬ HasReplica w r) × AsksUnknown p a × (v ≡ w)
Happens p w (event.At r a) answer.NoReplica v = (¬ HasReplica w r) × (¬ AsksUnknown p a) × (v ≡ w)
Happens p w (event.Sync a b) (answer.Replied x) v =
    (s : Replica) × IsAt w a s × Changes w b (λ t u. TakesIn p s t x u) v
Happens p w (event.Sync a b) answer.UnknownSymbol v = ⊥
Happens p w (event.Sync a b) answer.NoReplica v = (¬ (HasReplica w a × HasReplica w b)) × (v ≡ w)
Happens p w (event.Work r number steps) (answer.Replied x) v = Changes w r (λ s t. Works p s number steps.items x t) v
Happens p w (event.Work r number steps) answer.UnknownSymbol v = ⊥
Happens p w (event.Work r number steps) answer.NoReplica v = (¬ HasReplica w r) × (v ≡ w)

-- the events, with their answers, lead from one world to another
abbrev pub Runs : Program → Replicas → List Event → List Answer → Replicas → Type 0
Runs p w [] [] v = v ≡ w
Runs p w (e ∷ es) (x ∷ xs) v = (u : Replicas) × Happens p w e x u × Runs p u es xs v
Runs p w _ _ v = ⊥
