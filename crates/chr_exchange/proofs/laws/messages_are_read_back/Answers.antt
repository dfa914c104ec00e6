use Rattle.chr_exchange.proofs.ReadBack.{summaries_read, deltas_read, deltas_1_read}
use Rattle.chr_exchange.proofs.laws.messages_are_read_back.Goals as goal

pub returns-clause-summaries : goal.returns-clause-summaries
returns-clause-summaries c = summaries_read

pub returns-clause-deltas : goal.returns-clause-deltas
returns-clause-deltas c = deltas_read

pub returns-clause-deltas_1 : goal.returns-clause-deltas_1
returns-clause-deltas_1 c = deltas_1_read
