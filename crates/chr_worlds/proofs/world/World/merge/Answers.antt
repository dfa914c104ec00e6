use Rattle.std.proofs.lemmas.Result.{IfOk-weaker}
use Rattle.chr_acts.specs.declared.act.Act.TheVariants as act
use Rattle.chr_worlds.specs.Answers.{merged_answer}
use Rattle.chr_worlds.proofs.Places.{replies_at}
use Rattle.chr_worlds.proofs.world.World.merge.Goals as goal

pub returns-clause-happens : goal.returns-clause-happens
returns-clause-happens c = IfOk-weaker c.merge.result _ _ (λ merged replies.
    replies_at c.args.self.now _ c.self.inside.boards c.merge.new.self c.args.replica c.in-Some.place
    (act.Merge c.args.ops.now) (merged_answer merged) c.self.view_is c.in-Some.ensures.some.0 c.self.invariant replies)
    c.merge.ensures.ok
