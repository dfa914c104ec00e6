use Rattle.chr_json.proofs.CommandTexts.{texts_are_said}
use Rattle.chr_json.proofs.command.command_texts_are_said.Goals as goal

pub returns : goal.returns
returns c = texts_are_said
