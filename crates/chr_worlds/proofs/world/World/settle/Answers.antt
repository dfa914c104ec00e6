use Rattle.chr_acts.specs.declared.act.Act.TheVariants as act
use Rattle.chr_worlds.specs.Answers.{settled_answer}
use Rattle.chr_worlds.proofs.Places.{replies_at}
use Rattle.chr_worlds.proofs.world.World.settle.Goals as goal

pub returns-clause-happens : goal.returns-clause-happens
returns-clause-happens c =
    replies_at c.args.self.now _ c.self.inside.boards c.settle.new.self c.args.replica c.in-Some.place act.Settle
    (settled_answer c.settle.result) c.self.view_is c.in-Some.ensures.some.0 c.self.invariant c.settle.ensures
