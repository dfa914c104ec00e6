-- Replicas of a world that come to rest by workers.
use Rattle.std.specs.Prelude.{◌≡◌, ◌⊎◌, ℕ}
use Rattle.chr_base.specs.declared.program.Program.{Program}
use Rattle.chr_replica.specs.Replicas.{Replica, IsSettled, IsSound}
use Rattle.chr_worlds.specs.Worlds.{Replicas, Changes, HasReplica}

-- a replica holds what it held, and is sound
pub record KeepsTold (p : Program) (s t : Replica) : Type 0 where
  pub operations : t.operations ≡ s.operations
  pub sound : IsSound p t

-- a replica holds what it held, is sound, and has come to rest
pub record ComesToRest (p : Program) (s t : Replica) : Type 0 where
  pub operations : t.operations ≡ s.operations
  pub sound : IsSound p t
  pub settled : IsSettled p t

-- the replica of a number comes to rest, and no other changes; or there is none, and nothing does
abbrev pub RestsAt : Program → Replicas → ℕ → Replicas → Type 0
RestsAt p w r v = ((¬ HasReplica w r) × (v ≡ w)) ⊎ Changes w r (ComesToRest p) v
