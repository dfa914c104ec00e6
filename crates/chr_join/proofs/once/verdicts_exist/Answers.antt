use Rattle.chr_join.proofs.VerdictThere as lemma
use Rattle.chr_join.proofs.once.verdicts_exist.Goals as goal

pub returns : goal.returns
returns c = lemma.verdicts_exist
