use Rattle.chr_confluence.proofs.Listed as lemmas
use Rattle.chr_confluence.proofs.listing.listed_cases.Goals as goal

pub returns-clause-suffice : goal.returns-clause-suffice
returns-clause-suffice c = lemmas.listed_suffice

pub returns-clause-every : goal.returns-clause-every
returns-clause-every c = lemmas.every_case

pub returns-clause-cases : goal.returns-clause-cases
returns-clause-cases c = lemmas.listed_case

pub returns-clause-values : goal.returns-clause-values
returns-clause-values c = lemmas.listed_values
