use Rattle.std.proofs.Common.{◌≡◌, ◌++◌, ◌∷◌, [], ◌∙◌, rules, sym, subst, append-nil, append_assoc, false}
use Rattle.std.specs.Prelude.{string_bytes}
use Rattle.chr_report.specs.working.Opened.{IsVerdictOn}
use Rattle.chr_report.proofs.Outcomes.{if_ok}
use Rattle.chr_report.proofs.Turns.{divider_ends, text_ends}
use Rattle.chr_report.proofs.turning.take_text_line.Goals as goal

pub returns-then-is_divider-clause-line : goal.returns-then-is_divider-clause-line
returns-then-is_divider-clause-line g c =
    let a = c.args.asked in
    if_ok c.judge_text.result (λ now v. (
      v.0,
      v.1,
      divider_ends a c.args.text c.args.line.now v.0 now (sym c.is_divider.ensures ∙ c.if-is_divider.true)
          (subst (λ b. IsVerdictOn a b now v.0) c.deref.ensures.value v.2),
    )) c.judge_text.ensures.verdict

pub returns-clause-line : goal.returns-clause-line
returns-clause-line g c =
    let apart : c.is_divider.result ≡ false = search rules in
    let line = c.args.line.now in
    let grown : c.push.new.self.items ≡ (c.args.text.items ++ line) ++ 10 ∷ [] = search rules in (
      [],
      sym (append-nil (string_bytes c.args.held.now)),
      text_ends c.args.asked c.args.text c.push.new.self line (sym c.is_divider.ensures ∙ apart)
          (grown ∙ append_assoc c.args.text.items line (10 ∷ [])),
    )
