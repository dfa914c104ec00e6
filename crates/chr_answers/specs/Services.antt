-- The replicas that answer command lines, and what they hold between lines.
use Rattle.std.specs.Prelude.{List, All, map}
use Rattle.chr_base.specs.declared.program.Program.{Program}
use Rattle.chr_ops.specs.Operations.{Operations}
use Rattle.chr_replica.specs.Replicas.{IsSound}
use Rattle.chr_worlds.specs.Worlds.{Replicas}
use Rattle.chr_worlds.specs.Sharing.{shared_program}
use Rattle.chr_answers.specs.declared.service.Service.{Service}

-- its program
abbrev pub served : Service → Program
served s = shared_program s.world

-- the operations of replicas
abbrev pub operations_held : Replicas → List Operations
operations_held w = map (λ t. t.operations) w

-- those of its replicas
abbrev pub held : Service → List Operations
held s = operations_held s.world.replicas

-- between lines replicas are sound
abbrev pub AreBetweenLines : Program → Replicas → Type 0
AreBetweenLines p w = All (IsSound p) w

abbrev pub IsBetweenLines : Service → Type 0
IsBetweenLines s = AreBetweenLines (served s) s.world.replicas
