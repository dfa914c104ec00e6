use Rattle.std.specs.Prelude.{◌≡◌, ◌+◌, false, length, if◌then◌else◌}
use Rattle.chr_answers.specs.Lines.{HasNoFeed}
use Rattle.chr_answers.specs.Continuing.{GoesOn}
use Rattle.chr_answers.specs.Lines.{last_bytes}
use Rattle.chr_answers.specs.Ahead.{IsAhead}
use Rattle.chr_answers.specs.Services.{served}
use Rattle.chr_answers.proofs.answering.answer_lines.Given as goal

abbrev pub invariant-loop-answered : goal.invariant-loop-answered
invariant-loop-answered g l = record {
  answered : GoesOn l.fn.text (record { service = l.fn.at.service; out = l.fn.at.out; left = length l.fn.text }) l.at;
  ahead : IsAhead (served l.fn.at.service) l.fn.text l.ahead;
  last : l.answered ≡ false → HasNoFeed (last_bytes l.at.left l.fn.text);
}

abbrev pub decreases-loop-answered : goal.decreases-loop-answered
decreases-loop-answered g l = l.at.left + (if l.answered then 1 else 0)
