use Rattle.std.proofs.Common.{arith}
use Rattle.chr_indexes.proofs.RangeLinks.{linked_set, jumped}
use Rattle.chr_indexes.proofs.ranges.chain.below.Goals as goal

pub returns-then-meets-clause-linked : goal.returns-then-meets-clause-linked
returns-then-meets-clause-linked c =
    let row = c.requires.row in
    let many = c.requires.as_many in
    linked_set _ c.args.rows.now _ _ c.args.row _ c.requires.linked (omega (arith, row, many)) c.link_for-link.ensures

pub returns-else-meets-clause-linked : goal.returns-else-meets-clause-linked
returns-else-meets-clause-linked c =
    let row = c.requires.row in
    let many = c.requires.as_many in
    linked_set _ c.args.rows.now _ _ c.args.row _ c.requires.linked (omega (arith, row, many)) c.link_for-link.ensures

pub returns-else-meets-clause-passed : goal.returns-else-meets-clause-passed
returns-else-meets-clause-passed c = λ q l.
    jumped _ c.args.rows.now c.args.range.now c.args.row _ c.link_for-link.ensures c.if-meets.ensures.none q
    (omega (arith, l))
