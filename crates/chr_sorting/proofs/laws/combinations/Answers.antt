use Rattle.chr_sorting.proofs.Combined.{combinations_stand, combinations_values}
use Rattle.chr_sorting.proofs.OneCombinations.{combinations_one}
use Rattle.chr_sorting.proofs.laws.combinations.Goals as goal

pub returns-clause-cover : goal.returns-clause-cover
returns-clause-cover c = combinations_stand c.sorted_lists.ensures.free c.sorted_lists.ensures.equal
    c.sorted_lists.ensures.ordered c.sorted_lists.ensures.combinations

pub returns-clause-values : goal.returns-clause-values
returns-clause-values c = combinations_values

pub returns-clause-one : goal.returns-clause-one
returns-clause-one c = combinations_one
