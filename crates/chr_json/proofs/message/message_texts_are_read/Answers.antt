use Rattle.chr_json.proofs.MessagesBack.{summaries_back, deltas_1_back, deltas_2_back}
use Rattle.chr_json.proofs.message.message_texts_are_read.Goals as goal

pub returns-clause-summaries : goal.returns-clause-summaries
returns-clause-summaries c = summaries_back

pub returns-clause-deltas_1 : goal.returns-clause-deltas_1
returns-clause-deltas_1 c = deltas_1_back

pub returns-clause-deltas_2 : goal.returns-clause-deltas_2
returns-clause-deltas_2 c = deltas_2_back
