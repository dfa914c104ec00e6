use Rattle.chr_replica.specs.Boards.{program_on}
use Rattle.chr_node_boards.specs.Shown.{operations_on}
use Rattle.chr_node_talk.specs.Talks.{IsReady}
use Rattle.chr_node_tests.proofs.tests.lines.expect_answers.Given as goal

abbrev pub invariant-loop-bytes : goal.invariant-loop-bytes
invariant-loop-bytes g l =
    IsReady g.D.Disk.seen g.D.Disk.may_leave g.D.Disk.is_usable operations_on program_on l.machine.talk.node
