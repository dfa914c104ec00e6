use Rattle.chr_weights.specs.WeighedPrograms.{program_of}
use Rattle.chr_replica.specs.Boards.{program_on}
use Rattle.chr_workers.proofs.InParts.{put_rests}
use Rattle.chr_workers.proofs.returning.put_one.Goals as goal

pub returns-in-Some-clause-put : goal.returns-in-Some-clause-put
returns-in-Some-clause-put c =
    let d = c.in-Some.rested.done in
    let old = c.args.board.now in
    put_rests (program_on old) (program_of d.weighed) old.replica c.put.new.self.replica d.number d.part d.result
    c.put.result c.is_ok.result c.is_ok.ensures.value c.put.ensures.ok c.put.ensures.own c.in-Some.rested.rests
