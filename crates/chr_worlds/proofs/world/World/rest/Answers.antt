use Rattle.chr_replica.proofs.Outcomes.{on_err}
use Rattle.chr_worlds.specs.Resting.{KeepsTold}
use Rattle.chr_worlds.proofs.Places.{happens_at, rests_at}
use Rattle.chr_worlds.proofs.world.World.rest.Goals as goal

pub returns-clause-rests : goal.returns-clause-rests
returns-clause-rests g c =
    rests_at c.rest.result c.args.self.now _ c.self.inside.boards c.rest.new.self c.args.replica c.in-Some.place
    c.self.view_is c.in-Some.ensures.some.0 c.self.invariant c.rest.ensures.rested

pub returns-clause-stopped : goal.returns-clause-stopped
returns-clause-stopped g c = on_err c.rest.result
    (happens_at c.args.self.now _ c.self.inside.boards c.rest.new.self c.args.replica c.in-Some.place
    (λ p s t. KeepsTold p s t) c.self.view_is c.in-Some.ensures.some.0 c.self.invariant c.rest.ensures.kept)
