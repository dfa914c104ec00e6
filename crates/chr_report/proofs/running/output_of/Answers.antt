use Rattle.std.proofs.Common.{sym, subst}
use Rattle.std.specs.Prelude.{string_bytes}
use Rattle.chr_report.specs.declared.judging.Judged.TheVariants as judged
use Rattle.chr_report.specs.declared.running.Status.TheVariants.{Accepted, Refused}
use Rattle.chr_answers.specs.Lines.{lines}
use Rattle.chr_report.specs.Inputs.{commands_of}
use Rattle.chr_report.specs.Outputs.{asked, IsReadOutput}
use Rattle.chr_report.specs.working.Judged.{IsJudgedText}
use Rattle.chr_report.specs.working.LinesLeft.{lines_left}
use Rattle.chr_report.proofs.Outcomes.{read_output}
use Rattle.chr_read.specs.ProgramTexts.{IsAnswer}
use Rattle.chr_report.proofs.running.output_of.Goals as goal

pub returns-in_ok-text-in-Accepted : goal.returns-in_ok-text-in-Accepted
returns-in_ok-text-in-Accepted g c =
    let text = c.split.result.0.now in
    let out = string_bytes c.in_ok-text-in-Accepted.text in
    let j : IsJudgedText c.args.wanted.coverage text (judged.Accepted c.in-Accepted.accepted) =
    subst (IsJudgedText c.args.wanted.coverage text) c.in-Accepted.is c.in_ok-accepted.ensures in
    read_output c.args.verb c.args.wanted c.args.input.now text c.split.result.1 c.asked.result j.0 Accepted out
    c.split.ensures.text c.split.ensures.commands c.asked.ensures j.1
    (subst (λ a. IsReadOutput a c.args.wanted (lines_left c.asked.result) Accepted out)
    (sym j.2.0) c.in_ok-text-in-Accepted.ensures)

pub returns-in-Refused : goal.returns-in-Refused
returns-in-Refused g c =
    let text = c.split.result.0.now in
    let commands = asked c.args.verb (commands_of (lines c.args.input.now)) in
    let result = c.refused.result in
    let j : IsJudgedText c.args.wanted.coverage text (judged.Refused c.in-Refused.line) =
    subst (IsJudgedText c.args.wanted.coverage text) c.in-Refused.is c.in_ok-accepted.ensures in (
      j.0,
      subst (λ t. IsAnswer t j.0) c.split.ensures.text j.1,
      subst (λ s. IsReadOutput j.0 c.args.wanted commands s (string_bytes result.text)) (sym c.refused.ensures.status)
          (subst (λ t. IsReadOutput j.0 c.args.wanted commands Refused (string_bytes t)) (sym c.refused.ensures.text)
          (j.2 c.args.wanted.replicas commands)),
    )
