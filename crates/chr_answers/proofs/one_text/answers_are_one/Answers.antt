use Rattle.chr_answers.proofs.OneText as shown
use Rattle.chr_answers.proofs.one_text.answers_are_one.Goals as goal

pub returns-clause-answers : goal.returns-clause-answers
returns-clause-answers c = shown.answers_are_one c.summaries_are_one.ensures.summaries

pub returns-clause-first : goal.returns-clause-first
returns-clause-first c = shown.first_answers_are_one c.summaries_are_one.ensures.summaries
