use Rattle.std.proofs.Common.{◌≡◌, subst, sym}
use Rattle.std.specs.Prelude.{string_bytes}
use Rattle.std.specs.Box.{with_value}
use Rattle.chr_base.specs.Programs.{declarations, rules_of}
use Rattle.chr_answers.specs.Answered.{AnswersLine}
use Rattle.chr_answers.specs.Lines.{without_return}
use Rattle.chr_answers.specs.Services.{held, served, IsBetweenLines}
use Rattle.chr_answers.proofs.Fronts.{adds}
use Rattle.chr_report.proofs.Turns.{command_ends, command_is_last}
use Rattle.chr_report.proofs.turning.take_command.Goals as goal

pub answer_line-requires-after_bounds : goal.answer_line-requires-after_bounds
answer_line-requires-after_bounds g c κs within =
    subst IsBetweenLines (sym c.deref_mut-replicas.ensures.value) c.requires

pub returns-clause-line : goal.returns-clause-line
returns-clause-line g c =
    let a = c.args.asked in
    let from = c.args.service in
    let s = from.value in
    let t = c.answer_line.new.service in
    let to = with_value from t in
    let lent = c.deref_mut-replicas.ensures.value in
    let ds = declarations (served s) in
    let rules = rules_of (served s) in
    let line = c.args.line.now in
    let before = string_bytes c.args.held.now in
    let after = string_bytes c.answer_line.new.out in
    let program = subst (λ u. t.world.accepted ≡ u.world.accepted) lent c.answer_line.ensures.program in
    let answer = subst (λ u. AnswersLine (declarations (served u)) (rules_of (served u)) (held u)
    c.without_return.result.now before (held t) after) lent c.in_ok-answer_line.ensures.answer in
    let one = adds ds rules (without_return line) before after (held s) (held t)
    (subst (λ l. AnswersLine ds rules (held s) l before (held t) after) c.without_return.ensures answer) in (
      one.0,
      one.2,
      (
        command_ends a from to line one.0 c.answers_exist.ensures program one.1,
        command_is_last a from to line one.0 one.1,
      ),
    )
