use Rattle.chr_weights.proofs.Ranks.{ranks_bounded}
use Rattle.chr_weights.proofs.laws.ranks_are_bounded.Goals as goal

pub returns : goal.returns
returns c = ranks_bounded
