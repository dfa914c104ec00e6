use Rattle.chr_acts.specs.Events.{Does}
use Rattle.chr_worlds.proofs.Places.{happens_at}
use Rattle.chr_worlds.proofs.world.World.ask.Goals as goal

pub returns-clause-happens : goal.returns-clause-happens
returns-clause-happens c =
    happens_at c.args.self.now _ c.self.inside.boards c.carry_out.new.self c.args.replica c.in-Some.place
    (λ p s t. Does p s c.args.act.now c.in_ok-reply.reply t) c.self.view_is c.in-Some.ensures.some.0 c.self.invariant
    c.in_ok-reply.ensures.ok
