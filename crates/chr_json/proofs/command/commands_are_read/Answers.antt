use Rattle.chr_json.proofs.CommandsBack.{commands_back}
use Rattle.chr_json.proofs.command.commands_are_read.Goals as goal

pub returns : goal.returns
returns c = commands_back
