use Rattle.std.proofs.Common.{sym, ◌∙◌}
use Rattle.std.specs.Cmp.{unsigned_Decides}
use Rattle.std.specs.Cmp.Lexicographic.{pointwise_decides}
use Rattle.chr_report.proofs.readers.has_lines_of.Goals as goal

pub returns : goal.returns
returns c = λ same.
    sym c.lines.ensures
    ∙ (pointwise_decides unsigned_Decides c.lines.result.now c.lines-2.result.now).0 (sym c.eq.ensures ∙ same)
    ∙ c.lines-2.ensures
