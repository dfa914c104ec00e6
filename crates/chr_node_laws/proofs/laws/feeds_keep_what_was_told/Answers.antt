use Rattle.chr_node_laws.proofs.Fronts.{left_are_fronts}
use Rattle.chr_node_laws.proofs.Sets.{acknowledged_are_held, no_others_are_held}
use Rattle.chr_node_laws.proofs.laws.feeds_keep_what_was_told.Goals as goal

pub returns-clause-left : goal.returns-clause-left
returns-clause-left c = left_are_fronts

pub returns-clause-acknowledged : goal.returns-clause-acknowledged
returns-clause-acknowledged c = acknowledged_are_held

pub returns-clause-no_other : goal.returns-clause-no_other
returns-clause-no_other c = no_others_are_held
