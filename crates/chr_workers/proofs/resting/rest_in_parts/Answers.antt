use Rattle.std.proofs.Common.{inl}
use Rattle.chr_replica.specs.Leases.{parts_in}
use Rattle.chr_workers.proofs.InParts.{rests_in_parts}
use Rattle.chr_workers.proofs.resting.rest_in_parts.Goals as goal

pub returns-clause-rested : goal.returns-clause-rested
returns-clause-rested g c =
    let took = c.in-Ok.ensures in
    let back = c.in_ok-recall_all.ensures in
    inl (rests_in_parts c.args.board.now c.take_parts.new.self c.put_results-rested.new.board c.recall_all.new.board
    c.args.parts c.put_results-rested.result (parts_in c.in-Ok.leases.items) c.requires.out took.program took.ok
    c.put_results-rested.ensures.puts back.recalls back.out)
