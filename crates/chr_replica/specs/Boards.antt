-- What a board is seen as.
use Rattle.chr_base.specs.declared.program.Program.{Program}
use Rattle.chr_join.specs.declared.accepted.Accepted.{Accepted}
use Rattle.chr_join.specs.AcceptedPrograms.{program_in}
use Rattle.chr_replica.specs.Replicas.{Replica}

-- an accepted program, and a replica of it
pub record Held : Type 0 where
  pub accepted : Accepted
  pub replica : Replica

-- the program of a board
abbrev pub program_on : Held → Program
program_on b = program_in b.accepted
