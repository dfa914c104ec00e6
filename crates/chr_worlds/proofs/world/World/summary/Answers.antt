use Rattle.std.proofs.Common.{refl}
use Rattle.std.specs.Prelude.{Some}
use Rattle.chr_acts.specs.declared.act.Act.TheVariants as act
use Rattle.chr_worlds.specs.Answers.{summed_answer}
use Rattle.chr_worlds.proofs.Places.{asked_at}
use Rattle.chr_worlds.proofs.world.World.summary.Goals as goal

pub returns : goal.returns
returns c =
    asked_at c.args.self.now c.args.replica c.in-Some.board.now act.Summary
    (summed_answer (Some c.in_ok-summary.summary)) c.in-Some.ensures.replica c.in-Some.ensures.program
    (c.in_ok-summary.ensures, refl)
