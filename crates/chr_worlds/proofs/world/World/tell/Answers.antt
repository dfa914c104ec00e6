use Rattle.std.proofs.lemmas.Result.{IfOk-weaker}
use Rattle.chr_acts.specs.declared.act.Act.TheVariants as act
use Rattle.chr_worlds.specs.Answers.{told_answer}
use Rattle.chr_worlds.proofs.Places.{replies_at}
use Rattle.chr_worlds.proofs.world.World.tell.Goals as goal

pub returns-clause-happens : goal.returns-clause-happens
returns-clause-happens c = IfOk-weaker c.tell.result _ _ (λ told replies.
    replies_at c.args.self.now _ c.self.inside.boards c.tell.new.self c.args.replica c.in-Some.place
    (act.Tell c.args.op) (told_answer told) c.self.view_is c.in-Some.ensures.some.0 c.self.invariant replies)
    c.tell.ensures.ok
