use Rattle.std.proofs.Common.{◌≡◌, ◌∙◌, sym, rules, false}
use Rattle.chr_report.proofs.Cutting.{cut_more}
use Rattle.chr_report.proofs.input.split.Goals as goal

pub loop-next-preserved : goal.loop-next-preserved
loop-next-preserved c =
    let n = c.next_line.ensures in
    cut_more c.args.input.now c.loop-next.next c.in-Some.rest c.next_line.result.0.now c.next_line.result.1
    c.loop-next.invariant c.in-Some.is n.lines n.alone n.before
    (let e : c.is_divider.result ≡ false = search rules in sym c.is_divider.ensures ∙ e)
