use Rattle.std.proofs.Common.{ap, ◌∙◌}
use Rattle.chr_replica.specs.Boards.{Held}
use Rattle.chr_node_boards.specs.Shown.{operations_on}
use Rattle.chr_node_boards.proofs.Replicas.{only_moved}
use Rattle.chr_node_boards.proofs.board.NodeBoard.show.Goals as goal

pub shown-requires-clause-none : goal.shown-requires-clause-none
shown-requires-clause-none c = c.rest.ensures.out ∙ c.self.invariant

pub returns-clause-only : goal.returns-clause-only
returns-clause-only c =
    only_moved _ _ _ _ _ (c.rest.ensures.accepted ∙ ap (λ (b : Held). b.accepted) c.self.view_is)
    (c.rest.ensures.operations ∙ ap operations_on c.self.view_is) c.in_ok-store.ensures
