use Rattle.chr_confluence.proofs.SortedCases.{sorted_confluent, failing_sorted}
use Rattle.chr_confluence.proofs.sorted_laws.sorted_confluence.Goals as goal

pub returns-clause-confluent : goal.returns-clause-confluent
returns-clause-confluent c = sorted_confluent

pub returns-clause-failing : goal.returns-clause-failing
returns-clause-failing c = failing_sorted
