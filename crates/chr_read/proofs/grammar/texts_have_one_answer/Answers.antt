use Rattle.chr_read.proofs.OneAnswer.{some_answer, one_meaning, apart, one_fault}
use Rattle.chr_read.proofs.grammar.texts_have_one_answer.Goals as goal

pub returns : goal.returns
returns c = record { some = some_answer; meaning = one_meaning; apart = apart; fault = one_fault }
