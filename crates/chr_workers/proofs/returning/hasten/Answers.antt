use Rattle.chr_replica.specs.Boards.{program_on}
use Rattle.chr_workers.proofs.Kept.{hastened_kept}
use Rattle.chr_workers.proofs.returning.hasten.Goals as goal

pub returns-clause-kept : goal.returns-clause-kept
returns-clause-kept g c =
    (hastened_kept c.args.board.now c.hasten.new.self (program_on c.args.board.now) c.hasten.ensures.program
    c.hasten.ensures.settles).0

pub returns-clause-out : goal.returns-clause-out
returns-clause-out g c =
    (hastened_kept c.args.board.now c.hasten.new.self (program_on c.args.board.now) c.hasten.ensures.program
    c.hasten.ensures.settles).1
