use Rattle.chr_rewrite.proofs.PlainThere.{plain_there}
use Rattle.chr_rewrite.proofs.laws.plain_computations_exist.Goals as goal

pub returns : goal.returns
returns c = plain_there
