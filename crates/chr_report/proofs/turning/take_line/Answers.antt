use Rattle.std.proofs.Common.{[], append-nil, sym}
use Rattle.std.specs.Prelude.{string_bytes}
use Rattle.chr_report.specs.declared.turning.Stage.TheVariants as stage
use Rattle.chr_report.proofs.Outcomes.{if_ok}
use Rattle.chr_report.proofs.Turns.{both_turn, checked_turns, input_turns, line_turns, none_turns, refused_turns}
use Rattle.chr_report.proofs.turning.take_line.Goals as goal

pub returns-then-is_last-clause-taken : goal.returns-then-is_last-clause-taken
returns-then-is_last-clause-taken g c = if_ok c.end_text.result (λ new k. (
  k.0,
  k.1,
  input_turns c.args.is_last c.args.asked c.args.stage (stage.Text c.in-Text.text) new c.args.line.now k.0
      c.if-is_last.true c.in-Text.is k.2,
)) c.end_text.ensures.input

pub returns-else-is_last-clause-taken : goal.returns-else-is_last-clause-taken
returns-else-is_last-clause-taken g c = if_ok c.take_text_line.result (λ new k. (
  k.0,
  k.1,
  line_turns c.args.is_last c.args.asked c.args.stage (stage.Text c.in-Text.text) new c.args.line.now k.0
      c.if-is_last.false c.in-Text.is k.2,
)) c.take_text_line.ensures.line

pub returns-in-Commands-clause-taken : goal.returns-in-Commands-clause-taken
returns-in-Commands-clause-taken g c = if_ok c.take_command.result (λ new k. (
  k.0,
  k.1,
  both_turn c.args.is_last c.args.asked c.args.stage (stage.Commands c.in-Commands.service) new c.args.line.now k.0
      c.in-Commands.is k.2,
)) c.take_command.ensures.line

pub returns-in-Checked-clause-taken : goal.returns-in-Checked-clause-taken
returns-in-Checked-clause-taken g c = (
  [],
  sym (append-nil (string_bytes c.args.held.now)),
  none_turns c.args.is_last c.args.asked c.args.stage stage.Checked c.args.line.now c.in-Checked.is
      (checked_turns c.args.is_last c.args.asked c.args.line.now),
)

pub returns-in-Refused-clause-taken : goal.returns-in-Refused-clause-taken
returns-in-Refused-clause-taken g c = (
  [],
  sym (append-nil (string_bytes c.args.held.now)),
  none_turns c.args.is_last c.args.asked c.args.stage stage.Refused c.args.line.now c.in-Refused.is
      (refused_turns c.args.is_last c.args.asked c.args.line.now),
)
