use Rattle.std.proofs.Common.{arith}
use Rattle.chr_json.specs.Reads.{command_view}
use Rattle.chr_json.proofs.CommandTexts.{line_is_said}
use Rattle.chr_json.proofs.line.read_line.Goals as goal

pub returns-in-Ok-clause-read : goal.returns-in-Ok-clause-read
returns-in-Ok-clause-read c =
    line_is_said c.args.line.now (command_view c.in-Ok.command) c.in-Ok.ensures.text c.in-Ok.ensures.limits
    c.in-Ok.ensures.utf8 (omega arith)
