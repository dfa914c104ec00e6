use Rattle.chr_node_records.proofs.Reading.{texts_are_read}
use Rattle.chr_node_records.proofs.laws.operation_texts_are_read.Goals as goal

pub returns : goal.returns
returns c = texts_are_read c.messages_are_read_back.ensures.deltas
