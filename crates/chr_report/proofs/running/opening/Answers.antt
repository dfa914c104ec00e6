use Rattle.std.proofs.Common.{◌∙◌, ap, length}
use Rattle.std.specs.Prelude.{string_bytes}
use Rattle.chr_base.specs.Programs.{rules_of}
use Rattle.chr_answers.specs.Services.{held}
use Rattle.chr_report.proofs.Conversing.{program_opened}
use Rattle.chr_report.proofs.running.opening.Goals as goal

pub returns-clause-opened : goal.returns-clause-opened
returns-clause-opened c =
    program_opened c.args.accepted _ _ c.args.wanted (held c.in_ok-service.service) (string_bytes c.in_ok-line.line)
    c.requires.accepted
    (ap length c.rules-rules.ensures ∙ ap (λ p. length (rules_of p)) c.program.ensures) c.cases.ensures.number
    c.in_ok-line.ensures c.in_ok-service.ensures.operations
