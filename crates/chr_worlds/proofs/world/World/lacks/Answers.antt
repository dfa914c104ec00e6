use Rattle.std.proofs.Common.{refl}
use Rattle.std.specs.Prelude.{Some}
use Rattle.chr_acts.specs.declared.act.Act.TheVariants as act
use Rattle.chr_worlds.specs.Answers.{lacked_answer}
use Rattle.chr_worlds.proofs.Places.{asked_at}
use Rattle.chr_worlds.proofs.world.World.lacks.Goals as goal

pub returns : goal.returns
returns c =
    asked_at c.args.self.now c.args.replica c.in-Some.board.now (act.Lacks c.args.summary.now)
    (lacked_answer (Some c.in_ok-ops.ops)) c.in-Some.ensures.replica c.in-Some.ensures.program
    (c.in_ok-ops.ensures, refl)
