use Rattle.std.proofs.Common.{sym, ◌∙◌}
use Rattle.chr_columns.proofs.OffEnd.{one_more}
use Rattle.chr_columns.proofs.removing.has_from.Goals as goal

pub loop-i-preserved : goal.loop-i-preserved
loop-i-preserved c =
    one_more c.args.items.now c.args.atoms.now c.args.start c.loop-i.i c.index-items-start.result c.index-atoms-i.result
    c.requires c.loop-i-test.true c.index-items-start.is c.index-atoms-i.is
    (sym c.is_same.ensures ∙ c.if-not-is_same.false) c.loop-i.invariant
