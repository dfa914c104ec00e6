use Rattle.std.proofs.Common.{subst}
use Rattle.chr_worlds.specs.Worlds.{IsAt}
use Rattle.chr_worlds.proofs.Places.{number_at}
use Rattle.chr_worlds.proofs.world.World.board.Goals as goal

pub returns-clause-replica : goal.returns-clause-replica
returns-clause-replica c =
    let b = c.at.result.now in
    subst (λ w. IsAt w.replicas c.args.replica b.replica) c.self.view_is
    (number_at c.self.inside.boards c.args.replica c.in_ok-place.place b c.in_ok-place.ensures.some.0 c.at.ensures)
