use Rattle.chr_answers.proofs.AnswersThere as lemma
use Rattle.chr_answers.proofs.one_text.answers_exist.Goals as goal

pub returns : goal.returns
returns c = lemma.answers_exist c.newman.ensures.rests c.summaries_are_one.ensures.exist
