use Rattle.chr_confluence.proofs.Listed as lemmas
use Rattle.chr_confluence.proofs.listing.listed_confluence.Goals as goal

pub returns-clause-confluent : goal.returns-clause-confluent
returns-clause-confluent c = lemmas.listed_confluent

pub returns-clause-failing : goal.returns-clause-failing
returns-clause-failing c = lemmas.failing_listed
