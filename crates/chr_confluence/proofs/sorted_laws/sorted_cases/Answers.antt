use Rattle.chr_confluence.proofs.SortedCases.{every_case, sorted_case, sorted_values, sorted_suffice}
use Rattle.chr_confluence.proofs.sorted_laws.sorted_cases.Goals as goal

pub returns-clause-every : goal.returns-clause-every
returns-clause-every c = every_case

pub returns-clause-cases : goal.returns-clause-cases
returns-clause-cases c = sorted_case

pub returns-clause-values : goal.returns-clause-values
returns-clause-values c = sorted_values

pub returns-clause-suffice : goal.returns-clause-suffice
returns-clause-suffice c = sorted_suffice
