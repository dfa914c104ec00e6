use Rattle.std.proofs.Common.{◌≡◌, rules, subst}
use Rattle.chr_answers.specs.Lines.{lines}
use Rattle.chr_report.specs.Inputs.{text_of}
use Rattle.chr_report.specs.Wires.{reader_of}
use Rattle.chr_start.proofs.VerdictEnds.{verdict_ends}
use Rattle.chr_start.proofs.explained.explain_input.Goals as goal

pub returns-clause-ok : goal.returns-clause-ok
returns-clause-ok g c =
    let input = c.in_ok-input.input.items in
    let text = c.program_text.result.now in
    let read : c.deref.result.now ≡ input = search rules in
    let told = c.in_ok-explanation.explanation in
    verdict_ends c.args.wide (g.R.Read.remaining (reader_of c.args.streams.now)) text input told.judged told.verdict
    c.status_of.result c.in_ok-input.ensures.ok (subst (λ i. text ≡ text_of (lines i)) read c.program_text.ensures)
    c.in_ok-explanation.ensures.told c.in_ok-explanation.ensures.verdict c.status_of.ensures
