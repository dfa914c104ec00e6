use Rattle.std.proofs.Common.{sym, subst}
use Rattle.chr_join.specs.AcceptedPrograms.{program_in}
use Rattle.chr_replica.specs.Replicas.{IsSettled}
use Rattle.chr_workers.proofs.resting.rest_board.Goals as goal

pub has_the_answer-requires : goal.has_the_answer-requires
has_the_answer-requires g c =
    subst (λ a. IsSettled (program_in a) c.rest_all-rested.new.board.replica)
    (sym c.rest_all-rested.ensures.kept.program) c.in_ok-rested.ensures.settled
