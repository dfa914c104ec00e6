-- Replicas that are told operations, and rested.
use Rattle.std.specs.Prelude.{◌≡◌, ℕ, Bool, true, false, List, Result, Err}
use Rattle.std.specs.FinMap as finite
use Rattle.chr_base.specs.declared.program.Program.{Program}
use Rattle.chr_ops.specs.Operations.{Operation}
use Rattle.chr_replica.specs.Replicas.{Replica, IsSettled, IsSound, TellsEach}
use Rattle.chr_worlds.specs.Worlds.{Replicas, Changes, IsAt}
use Rattle.chr_worlds.specs.declared.refusal.NotSettled.{NotSettled}
use Rattle.chr_worlds.specs.declared.refusal.NotSettled.TheVariants as unsettled
use Rattle.chr_answers.specs.declared.service.Service.{Service}
use Rattle.chr_answers.specs.Services.{served}

-- no part of a replica is out
abbrev pub IsIdle : Replica → Type 0
IsIdle s = s.out ≡ finite.empty

-- no part is leased out of the replica r, if it exists
abbrev pub AreIdle : Service → ℕ → Type 0
AreIdle s r = (t : Replica) → IsAt s.world.replicas r t → IsIdle t

-- no part is leased out of the replica r, if it exists, and it is at rest
abbrev pub AreAtRest : Service → ℕ → Type 0
AreAtRest s r = (t : Replica) → IsAt s.world.replicas r t → IsSettled (served s) t

-- A replica is told these operations, one after the other. Then steps and leases change what is kept of them, not the
-- operations, and it stays sound.
pub record TellsSoundly (p : Program) (ops : List Operation) (s t : Replica) : Type 0 where
  pub start : Replica
  pub held : start.operations ≡ s.operations
  pub told : Replica
  pub tells : TellsEach p start ops told
  pub operations : t.operations ≡ told.operations
  pub sound : IsSound p t

-- so is the replica of a number, and no other changes
abbrev pub TellsAt : Program → Replicas → ℕ → List Operation → Replicas → Type 0
TellsAt p w r ops v = Changes w r (TellsSoundly p ops) v

-- memory was refused to a pool's rest
abbrev pub was_stopped : Result ℕ NotSettled → Bool
was_stopped (Err (unsettled.Stopped n)) = true
was_stopped _ = false
