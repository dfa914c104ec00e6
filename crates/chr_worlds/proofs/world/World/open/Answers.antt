use Rattle.std.proofs.Common.{ap, ◌∙◌}
use Rattle.chr_worlds.specs.working.Boards.{replicas_on}
use Rattle.chr_worlds.proofs.Places.{untold}
use Rattle.chr_worlds.proofs.world.World.open.Goals as goal

pub returns-clause-replicas : goal.returns-clause-replicas
returns-clause-replicas c = ap replicas_on c.in_ok-boards.ensures ∙ untold c.args.replicas _
