use Rattle.std.proofs.Common.{subst}
use Rattle.chr_report.specs.working.Opened.{IsVerdictOn}
use Rattle.chr_report.proofs.Outcomes.{if_ok}
use Rattle.chr_report.proofs.Turns.{input_ends}
use Rattle.chr_report.proofs.turning.end_text.Goals as goal

pub returns-clause-input : goal.returns-clause-input
returns-clause-input g c =
    let a = c.args.asked in
    if_ok c.judge_text.result (λ now v. (
      v.0,
      v.1,
      input_ends a c.args.text c.args.line.now c.in_ok-all.all.items v.0 now c.in_ok-all.ensures
          (subst (λ b. IsVerdictOn a b now v.0) c.deref.ensures.value v.2),
    )) c.judge_text.ensures.verdict
