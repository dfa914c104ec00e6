use Rattle.chr_replica.specs.Boards.{program_on}
use Rattle.chr_acts.proofs.Placing.{is_placed}
use Rattle.chr_acts.proofs.Showing.{is_answer}
use Rattle.chr_acts.proofs.journals.receipts.store_of_receipt.Goals as goal

pub returns-clause-place : goal.returns-clause-place
returns-clause-place c =
    is_placed (program_on c.args.book.now.board) c.args.book.now.entries c.args.book.now.board.replica
    c.args.receipt.now c.is_legal.ensures c.requires

pub returns-clause-answer : goal.returns-clause-answer
returns-clause-answer c =
    let place = is_placed (program_on c.args.book.now.board) c.args.book.now.entries c.args.book.now.board.replica
    c.args.receipt.now c.is_legal.ensures c.requires in
    is_answer (program_on c.args.book.now.board) c.args.book.now.entries c.args.receipt.now c.store_of_reply.result
    c.shown_stores_are_answers.ensures.answers place c.store_of_reply.ensures
