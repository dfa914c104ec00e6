use Rattle.chr_sorting.proofs.FinestThere.{finest_exist}
use Rattle.chr_sorting.proofs.OneFinest.{finest_are_one, finest_have_one_cases, finest_have_as_many}
use Rattle.chr_sorting.proofs.laws.finest.Goals as goal

pub returns-clause-one : goal.returns-clause-one
returns-clause-one c = finest_are_one

pub returns-clause-cases : goal.returns-clause-cases
returns-clause-cases c = finest_have_one_cases

pub returns-clause-many : goal.returns-clause-many
returns-clause-many c = finest_have_as_many

pub returns-clause-exist : goal.returns-clause-exist
returns-clause-exist c = finest_exist
