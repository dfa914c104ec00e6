use Rattle.chr_replica.specs.Boards.{program_on}
use Rattle.chr_worlds.proofs.Returns.{comes_back}
use Rattle.chr_worlds.proofs.boards.put_stepped.Goals as goal

pub returns-in-Ok-clause-ok : goal.returns-in-Ok-clause-ok
returns-in-Ok-clause-ok c =
    comes_back (program_on c.args.board.now) c.args.board.now.replica c.args.number c.args.steps.now c.in_ok-done.done _
    c.in_ok-done.ensures.ok c.in-Ok.ensures.ok
