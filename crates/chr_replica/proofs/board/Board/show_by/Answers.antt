use Rattle.std.proofs.Common.{rules, ◌≡◌, sym, subst}
use Rattle.chr_base.specs.Programs.{rules_of}
use Rattle.chr_join.specs.Parts.{IsOnlyNormalForm}
use Rattle.chr_ops.specs.Operations.{told_store}
use Rattle.chr_replica.specs.Boards.{program_on}
use Rattle.chr_replica.proofs.board.Board.show_by.Goals as goal

pub returns-clause-only : goal.returns-clause-only
returns-clause-only g c =
    let b = c.args.self.now in
    let shown : c.in_ok-bag_by.field-0 ≡ b.replica.pool = search rules in
    subst (IsOnlyNormalForm (rules_of (program_on b)) (told_store b.replica.operations)) (sym shown)
    c.in_ok-may_show.ensures.only
