use Rattle.std.proofs.Common.{◌≡◌, ◌++◌, rules, subst}
use Rattle.std.specs.Prelude.{string_bytes}
use Rattle.chr_report.specs.declared.judging.Judged.TheVariants as judged
use Rattle.chr_report.specs.working.Judged.{IsJudgedText}
use Rattle.chr_report.proofs.turning.judge_text.Goals as goal

pub returns-in_ok-push_str-in-Refused-clause-verdict : goal.returns-in_ok-push_str-in-Refused-clause-verdict
returns-in_ok-push_str-in-Refused-clause-verdict g c =
    let line = string_bytes c.in-Refused.line in
    let j : IsJudgedText c.args.asked.wanted.coverage c.args.text.now (judged.Refused c.in-Refused.line) =
    subst (IsJudgedText c.args.asked.wanted.coverage c.args.text.now) c.in-Refused.is c.in_ok-accepted.ensures in
    let added : string_bytes c.push_str.new.self ≡ string_bytes c.args.held.now ++ line = search rules in
    (line, added, (j.0, j.1, λ commands. j.2 c.args.asked.wanted.replicas commands))
