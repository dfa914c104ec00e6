use Rattle.chr_report.proofs.OutputThere as lemma
use Rattle.chr_report.proofs.one_text.outputs_exist.Goals as goal

pub returns : goal.returns
returns c = lemma.outputs_exist c.texts_have_one_answer.ensures.some c.answers_exist.ensures
