-- A replica of the parts that a board keeps.
use Rattle.std.specs.Prelude.{◌≡◌, ℕ}
use Rattle.chr_base.specs.Stores.{Store}
use Rattle.chr_ops.specs.Operations.{Operations}
use Rattle.chr_join.specs.AcceptedPrograms.{program_in, weighed_of}
use Rattle.chr_join.specs.declared.accepted.Accepted.{Accepted}
use Rattle.chr_shards.specs.Ruled.{Ruled}
use Rattle.chr_replica.specs.Leases.{Leases}
use Rattle.chr_replica.specs.Replicas.{Replica, IsSound}

abbrev pub replica : Operations → Store → Leases → ℕ → Replica
replica m s l k = record { operations = m; pool = s; out = l; next = k }

-- what a board keeps: its replica is sound, and its pool is rested by the rules of its program
pub record IsBoard (a : Accepted) (m : Operations) (pool : Ruled) (l : Leases) (k : ℕ) : Type 0 where
  pub sound : IsSound (program_in a) (replica m pool.store l k)
  pub own : pool.weighed ≡ weighed_of a
