use Rattle.std.proofs.Common.{refl, subst, []}
use Rattle.std.specs.Prelude.{Some, string_bytes}
use Rattle.std.specs.Io.KnownBytes.{Appends}
use Rattle.chr_base.specs.Programs.{declarations, rules_of}
use Rattle.chr_device.specs.Devices.{inner_of}
use Rattle.chr_join.specs.AcceptedPrograms.{program_in}
use Rattle.chr_answers.specs.Services.{held}
use Rattle.chr_report.specs.working.Serving.{AnswersInput}
use Rattle.chr_report.proofs.Conversing.{program_served}
use Rattle.chr_report.proofs.Outcomes.{if_ok}
use Rattle.chr_report.proofs.running.answer_read.Goals as goal

pub returns-clause-ok : goal.returns-clause-ok
returns-clause-ok g c =
    let p = program_in c.args.accepted in
    let opened = c.in_ok-line in
    let verdict = string_bytes opened.line in
    let known = g.D.Read.remaining (inner_of c.args.reader.now) in
    if_ok c.answer_input.result (λ out s.
    program_served p c.args.wanted (held opened.service) verdict opened.ensures.opened c.args.first.now known
    (Some []) (Some verdict) (Some (string_bytes out)) refl
    (subst (λ q. AnswersInput (declarations q) (rules_of q) c.args.first.now known (held opened.service)
    (Appends (Some verdict) (Some (string_bytes out)))) opened.ensures.program s)) c.answer_input.ensures.ok
