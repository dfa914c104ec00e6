use Rattle.chr_answers.proofs.LineLaws as lemma
use Rattle.chr_answers.proofs.laws.lines_are_the_input.Goals as goal

pub returns : goal.returns
returns c = lemma.lines_are_the_input
