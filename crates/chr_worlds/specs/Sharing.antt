-- What a world is seen as.
use Rattle.chr_base.specs.declared.program.Program.{Program}
use Rattle.chr_join.specs.declared.accepted.Accepted.{Accepted}
use Rattle.chr_join.specs.AcceptedPrograms.{program_in}
use Rattle.chr_worlds.specs.Worlds.{Replicas}

-- an accepted program, and the replicas that share it
pub record Shared : Type 0 where
  pub accepted : Accepted
  pub replicas : Replicas

-- its program
abbrev pub shared_program : Shared → Program
shared_program w = program_in w.accepted
