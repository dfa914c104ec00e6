use Rattle.chr_confluence.proofs.Solving.{unifiers_exist}
use Rattle.chr_confluence.proofs.Solutions.{one_solution, terms_stand}
use Rattle.chr_confluence.proofs.listing.classes.Goals as goal

pub returns-clause-exist : goal.returns-clause-exist
returns-clause-exist c = unifiers_exist

pub returns-clause-one : goal.returns-clause-one
returns-clause-one c = one_solution

pub returns-clause-stand : goal.returns-clause-stand
returns-clause-stand c = λ σ es solves x. terms_stand σ es solves x
