use Rattle.std.proofs.Common.{subst}
use Rattle.std.specs.Prelude.{OnOk}
use Rattle.chr_join.specs.AcceptedPrograms.{program_in}
use Rattle.chr_replica.specs.Replicas.{IsSettled}
use Rattle.chr_worlds.proofs.resting.rest.Goals as goal

pub returns-clause-settled : goal.returns-clause-settled
returns-clause-settled g c =
    subst (λ a. OnOk c.rest_board.result (IsSettled (program_in a) c.rest_board.new.board.replica))
    c.recall_all-recalled.ensures.kept.program c.rest_board.ensures.settled
