use Rattle.chr_confluence.proofs.Carrying.{image_list, image_plus, image_within, image_minus, step_carried}
use Rattle.chr_confluence.proofs.Carrying.{reaches_carried, join_carried}
use Rattle.chr_confluence.proofs.sorted_laws.carry.Goals as goal

pub returns-clause-lists : goal.returns-clause-lists
returns-clause-lists c = image_list

pub returns-clause-sums : goal.returns-clause-sums
returns-clause-sums c = image_plus

pub returns-clause-within : goal.returns-clause-within
returns-clause-within c = image_within

pub returns-clause-differences : goal.returns-clause-differences
returns-clause-differences c = image_minus

pub returns-clause-steps : goal.returns-clause-steps
returns-clause-steps c = step_carried

pub returns-clause-runs : goal.returns-clause-runs
returns-clause-runs c = λ f p rules s t all each run. reaches_carried f p rules all s t each run

pub returns-clause-joins : goal.returns-clause-joins
returns-clause-joins c = λ f p rules t u all each other j. join_carried f p rules all t u each other j
