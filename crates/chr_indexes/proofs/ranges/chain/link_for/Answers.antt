use Rattle.std.proofs.Common.{◌-◌, arith, refl}
use Rattle.chr_indexes.proofs.RangeLinks.{node, read}
use Rattle.chr_indexes.proofs.ranges.chain.link_for.Goals as goal

pub returns-then-left-right : goal.returns-then-left-right
returns-then-left-right c =
    let some = c.if-next-gt0.true in
    let more = c.if-left-gt0.true in
    let within = c.requires.next.within in
    let many = c.requires.as_many in
    let row = c.requires.row in
    let left = read c.args.chains.now.links.items (c.args.next - 1) c.index-left.result.now
    (omega (arith, some, within, many, row)) c.index-left.ensures in
    let a = rw left at (c.requires.linked (c.args.next - 1) (omega (arith, some, within))) in
    let jump = a.jump in
    let right = read c.args.chains.now.links.items (c.index-left.result.now.jump - 1) c.index-right.result.now
    (omega (arith, more, jump, some, within, many, row)) c.index-right.ensures in
    node _ c.args.rows.now c.args.row c.args.next _ c.index-left.result.now c.index-right.result.now c.requires.next
    some more a
    (rw right at (c.requires.linked (c.index-left.result.now.jump - 1) (omega (arith, more, jump, some, within)))) refl
    refl
    (λ alive. c.with-then-left-right.ensures.left _ (c.with.ensures.left _ (c.bounds-bounds.ensures alive)))
    (λ x b. c.with-then-left-right.ensures.left x (c.with.ensures.right x b)) c.with-then-left-right.ensures.right
