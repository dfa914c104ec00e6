use Rattle.chr_read.proofs.OneNumber.{one_list, one_number}
use Rattle.chr_read.proofs.grammar.variables_are_numbered.Goals as goal

pub returns : goal.returns
returns c = record { list = one_list; same = one_number }
