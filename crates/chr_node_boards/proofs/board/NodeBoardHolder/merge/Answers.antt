use Rattle.std.proofs.Common.{subst}
use Rattle.std.specs.Prelude.{OnOk}
use Rattle.chr_ops.specs.Joins.{HasNoClash}
use Rattle.chr_replica.specs.Boards.{Held}
use Rattle.chr_node_boards.specs.Shown.{operations_on}
use Rattle.chr_node_boards.proofs.board.NodeBoardHolder.merge.Goals as goal

pub returns-clause-no_clash : goal.returns-clause-no_clash
returns-clause-no_clash c =
    subst (λ (b : Held). OnOk c.merge.result (HasNoClash (operations_on b) c.args.ops.now)) c.self.view_is
    c.merge.ensures.no_clash
