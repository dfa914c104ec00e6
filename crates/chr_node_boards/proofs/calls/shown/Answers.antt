use Rattle.chr_replica.specs.Boards.{program_on}
use Rattle.chr_node_boards.proofs.Replicas.{memory_alone}
use Rattle.chr_node_boards.proofs.calls.shown.Goals as goal

pub for_memory-requires : goal.for_memory-requires
for_memory-requires c =
    memory_alone (program_on c.args.board.now) c.args.board.now.replica c.in-Err.refusal c.requires.none
    c.requires.rests c.in-Err.ensures.refused
