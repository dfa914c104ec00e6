use Rattle.std.proofs.lemmas.Result.{IfOk-weaker}
use Rattle.chr_acts.specs.declared.act.Act.TheVariants as act
use Rattle.chr_worlds.specs.Answers.{shown_answer}
use Rattle.chr_worlds.proofs.Places.{asked_at}
use Rattle.chr_worlds.proofs.world.World.show.Goals as goal

pub returns : goal.returns
returns g c = IfOk-weaker c.show.result _ _ (λ shown replied.
    asked_at c.args.self.now c.args.replica c.in-Some.board.now act.Show (shown_answer shown)
    c.in-Some.ensures.replica c.in-Some.ensures.program replied) c.show.ensures
