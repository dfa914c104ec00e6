use Rattle.std.proofs.Common.{rules, ◌≡◌, subst}
use Rattle.chr_base.specs.Values.{HasValues}
use Rattle.chr_weights.specs.WeighedPrograms.{rules_in}
use Rattle.chr_confluence.specs.Confluence.{Confluent}
use Rattle.chr_join.specs.AcceptedPrograms.{weighed_of}
use Rattle.chr_ops.specs.Operations.{told_store}
use Rattle.chr_replica.specs.Boards.{program_on}
use Rattle.chr_acts.proofs.journals.books.shown_stores_agree.Goals as goal

pub returns : goal.returns
returns c =
    let same : c.weighed.result.now ≡ weighed_of c.args.left.now.board.accepted = search rules in
    let confluent = subst (λ w. Confluent (rules_in w)) same c.weighed.ensures.confluent in
    let values = subst (λ b. HasValues (told_store b.replica.operations)) c.board.ensures c.is_sound.ensures.values in
    let values' = subst (λ b. HasValues (told_store b.replica.operations)) c.board-2.ensures
    c.is_sound-2.ensures.values in
    c.journals_tell.ensures.agree (program_on c.args.left.now.board) (program_on c.args.right.now.board)
    c.args.left.now.entries c.args.right.now.entries c.args.left.now.board.replica c.args.right.now.board.replica
    c.requires confluent c.is_legal.ensures values c.is_legal-2.ensures values'
