use Rattle.std.proofs.Common.{subst, sym}
use Rattle.std.specs.Prelude.{string_bytes}
use Rattle.chr_base.specs.Programs.{declarations, rules_of}
use Rattle.chr_join.specs.AcceptedPrograms.{program_in}
use Rattle.chr_report.specs.Outputs.{IsAnswered}
use Rattle.chr_answers.specs.Answered.{AnswersRest}
use Rattle.chr_report.specs.working.LinesLeft.{lines_left}
use Rattle.chr_answers.specs.Services.{held}
use Rattle.chr_report.proofs.Outcomes.{if_ok}
use Rattle.chr_report.proofs.running.answer_program.Goals as goal

pub returns : goal.returns
returns g c =
    let p = program_in c.args.accepted in
    let commands = lines_left c.args.commands in
    let opened = c.in_ok-line in
    if_ok c.answer_commands.result (λ out s.
    let answered : AnswersRest (declarations p) (rules_of p) commands (held opened.service) (string_bytes opened.line)
    (string_bytes out) = subst (λ q. AnswersRest (declarations q) (rules_of q) commands (held opened.service)
    (string_bytes opened.line) (string_bytes out)) opened.ensures.program s in
    subst (IsAnswered (declarations p) (rules_of p) c.args.wanted commands) (sym answered.out_is)
    (opened.ensures.opened commands answered.out answered.answers)) c.answer_commands.ensures
