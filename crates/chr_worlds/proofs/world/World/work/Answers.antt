use Rattle.std.proofs.Common.{subst}
use Rattle.chr_replica.specs.Boards.{program_on}
use Rattle.chr_worlds.specs.Worlds.{Works}
use Rattle.chr_worlds.specs.working.Boards.{ChangesAt}
use Rattle.chr_worlds.proofs.Places.{happens_at}
use Rattle.chr_worlds.proofs.world.World.work.Goals as goal

pub returns-clause-happens : goal.returns-clause-happens
returns-clause-happens c =
    let works = subst (λ steps. ChangesAt c.self.inside.boards c.in-Some.place
    (λ b t. Works (program_on b) b.replica c.args.lease steps c.in_ok-reply.reply t) c.work.new.self)
    c.deref.ensures.value c.in_ok-reply.ensures.ok in
    happens_at c.args.self.now _ c.self.inside.boards c.work.new.self c.args.replica c.in-Some.place
    (λ p s t. Works p s c.args.lease c.args.steps.now.items c.in_ok-reply.reply t) c.self.view_is
    c.in-Some.ensures.some.0 c.self.invariant works
