use Rattle.std.proofs.Common.{All}
use Rattle.chr_answers.specs.Requests.{IsHeard}
use Rattle.chr_report.proofs.ahead.read_lines.Given as goal

abbrev pub invariant-loop-left : goal.invariant-loop-left
invariant-loop-left l = All (IsHeard l.program l.text) l.found.items

abbrev pub decreases-loop-left : goal.decreases-loop-left
decreases-loop-left l = l.left
