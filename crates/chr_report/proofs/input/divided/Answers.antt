use Rattle.std.proofs.Common.{◌≡◌, ◌-◌, ◌∷◌, [], ◌++◌, ap, sym, ◌∙◌, subst, take, length, rules, false}
use Rattle.chr_report.specs.working.Divided.{Divides}
use Rattle.chr_report.proofs.Cutting.{take_front}
use Rattle.chr_answers.proofs.Feeds.{ended_more}
use Rattle.chr_report.proofs.Texts.{text_divides, text_grows}
use Rattle.chr_report.proofs.input.divided.Goals as goal

pub returns-then-is_divider-clause-some : goal.returns-then-is_divider-clause-some
returns-then-is_divider-clause-some c =
    let i = c.loop-line.invariant in
    let line = c.in-Some.line.now in
    let rest = c.loop-line.rest.now in
    let text : take (length c.args.input.now - length rest) c.args.input.now ≡ i.0 =
    subst (λ b. take (length b - length rest) b ≡ i.0) (sym i.1) (take_front i.0 rest) in
    record {
      front = i.0 ++ (line ++ 10 ∷ []);
      are = i.1 ∙ ap (λ r. i.0 ++ r) c.in-Some.ensures.some ∙ sym (ended_more i.0 line c.in-Some.more.now);
      divides = subst (λ t. Divides t (i.0 ++ (line ++ 10 ∷ []))) (sym text)
          (text_divides i.0 line i.2 c.in-Some.ensures.unended (sym c.is_divider.ensures ∙ c.if-is_divider.true));
    }

pub loop-line-preserved : goal.loop-line-preserved
loop-line-preserved c =
    let i = c.loop-line.invariant in
    let line = c.in-Some.line.now in
    let apart : c.is_divider.result ≡ false = search rules in (
      i.0 ++ (line ++ 10 ∷ []),
      i.1 ∙ ap (λ r. i.0 ++ r) c.in-Some.ensures.some ∙ sym (ended_more i.0 line c.in-Some.more.now),
      text_grows i.0 line i.2 c.in-Some.ensures.unended (sym c.is_divider.ensures ∙ apart),
    )
