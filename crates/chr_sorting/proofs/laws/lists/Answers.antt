use Rattle.chr_sorting.proofs.ListsThere.{lists_there}
use Rattle.chr_sorting.proofs.OneCombinations.{one_lists}
use Rattle.chr_sorting.proofs.laws.lists.Goals as goal

pub returns-clause-exist : goal.returns-clause-exist
returns-clause-exist c = lists_there

pub returns-clause-one : goal.returns-clause-one
returns-clause-one c = one_lists
