use Rattle.chr_answers.proofs.Continuing.{next_goes}
use Rattle.chr_answers.proofs.answering.answer_next.Goals as goal

pub returns-clause-goes : goal.returns-clause-goes
returns-clause-goes g c =
    next_goes c.args.text.now c.args.at.now c.answer_ahead.new.at c.answer_first.new.at c.answer_first.result
    c.in_ok-answer_ahead.ensures.goes c.answer_first.ensures.answered c.answer_first.ensures.same
