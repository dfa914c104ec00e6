use Rattle.chr_exchange.proofs.Sorting.{lacking_different}
use Rattle.chr_exchange.proofs.laws.lacked_ids_differ.Goals as goal

pub returns : goal.returns
returns c = lacking_different
