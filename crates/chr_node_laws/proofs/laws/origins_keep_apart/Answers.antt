use Rattle.chr_node_laws.proofs.Sets.{origins_keep_apart, one_bag_is_held}
use Rattle.chr_node_laws.proofs.laws.origins_keep_apart.Goals as goal

pub returns-clause-apart : goal.returns-clause-apart
returns-clause-apart c = origins_keep_apart

pub returns-clause-held : goal.returns-clause-held
returns-clause-held c = one_bag_is_held
