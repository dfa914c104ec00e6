use Rattle.chr_node_laws.proofs.Sets.{copies_tell_no_more, alike_are_one, agree}
use Rattle.chr_node_laws.proofs.laws.nodes_agree.Goals as goal

pub returns-clause-copies : goal.returns-clause-copies
returns-clause-copies c = copies_tell_no_more

pub returns-clause-one : goal.returns-clause-one
returns-clause-one c = alike_are_one

pub returns-clause-agree : goal.returns-clause-agree
returns-clause-agree c = agree
