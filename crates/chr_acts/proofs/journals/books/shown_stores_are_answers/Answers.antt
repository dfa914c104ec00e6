use Rattle.std.proofs.Common.{rules, ◌≡◌, subst}
use Rattle.chr_base.specs.Values.{HasValues}
use Rattle.chr_weights.specs.WeighedPrograms.{rules_in}
use Rattle.chr_confluence.specs.Confluence.{Confluent}
use Rattle.chr_join.specs.AcceptedPrograms.{weighed_of}
use Rattle.chr_ops.specs.Operations.{told_store}
use Rattle.chr_replica.specs.Boards.{program_on}
use Rattle.chr_acts.proofs.journals.books.shown_stores_are_answers.Goals as goal

pub returns-clause-held : goal.returns-clause-held
returns-clause-held c =
    c.journals_tell.ensures.hold (program_on c.args.book.now.board) c.args.book.now.entries
    c.args.book.now.board.replica c.is_legal.ensures

pub returns-clause-answers : goal.returns-clause-answers
returns-clause-answers c =
    let same : c.weighed.result.now ≡ weighed_of c.args.book.now.board.accepted = search rules in
    let confluent = subst (λ w. Confluent (rules_in w)) same c.weighed.ensures.confluent in
    let values = subst (λ b. HasValues (told_store b.replica.operations)) c.board.ensures c.is_sound.ensures.values in
    c.journals_tell.ensures.answer (program_on c.args.book.now.board) c.args.book.now.entries
    c.args.book.now.board.replica
    confluent c.is_legal.ensures values
