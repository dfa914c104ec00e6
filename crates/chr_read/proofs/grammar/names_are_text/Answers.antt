use Rattle.chr_read.proofs.NamesText.{names_text, names_names}
use Rattle.chr_read.proofs.grammar.names_are_text.Goals as goal

pub returns : goal.returns
returns c = record { text = names_text; names = names_names }
