use Rattle.std.proofs.Common.{◌≡◌, ◌-◌, length, arith, ap, ◌∙◌}
use Rattle.chr_indexes.proofs.RangeLinks.{jumped, passed, read}
use Rattle.chr_indexes.proofs.ranges.chain.seek.Goals as goal

pub loop-at-preserved-then-not-meets : goal.loop-at-preserved-then-not-meets
loop-at-preserved-then-not-meets c =
    let i = c.loop-at.invariant in
    let some = c.loop-at-test.true in
    let many = i.as_many in
    let w = i.within in
    let v = c.requires.within in
    let link = read c.loop-at.chains.links.items (c.loop-at.at - 1) c.index-link.result.now
    (omega (arith, some, w, v, many)) c.index-link.ensures in
    let is = rw link at (i.linked (c.loop-at.at - 1) (omega (arith, some, w, v))) in
    let jump = is.jump in
    record {
      as_many = many;
      heads = i.heads;
      room = i.room;
      linked = i.linked;
      within = omega (arith, jump, w, some);
      slot = λ p. (is.jump_slot p ∙ i.slot some);
      above = passed _ c.args.rows.now c.args.hash c.args.range.now c.args.from c.loop-at.at
          c.index-link.result.now.jump c.loop-at.at some (i.slot some) (omega arith)
          (λ e. (absurd (omega (arith, e))))
          (λ q l. jumped _ c.args.rows.now c.args.range.now (c.loop-at.at - 1) _ is c.if-not-meets.ensures.none q
          (omega (arith, l))) i.above;
    }

pub returns-then-is_wanted-clause-linked : goal.returns-then-is_wanted-clause-linked
returns-then-is_wanted-clause-linked c = rw (ap (λ h. length h.items) c.loop-at.invariant.heads) at
    c.loop-at.invariant.linked

pub loop-at-preserved : goal.loop-at-preserved
loop-at-preserved c =
    let i = c.loop-at.invariant in
    let some = c.loop-at-test.true in
    let w = i.within in
    let b = c.below-at.ensures.within in
    let size : length c.below-at.new.chains.heads.items ≡ length c.loop-at.chains.heads.items =
    ap (λ h. length h.items) c.below-at.ensures.heads in
    record {
      as_many = c.below-at.ensures.as_many;
      heads = c.below-at.ensures.heads ∙ i.heads;
      room = c.below-at.ensures.room ∙ i.room;
      linked = rw size c.below-at.ensures.linked;
      within = omega (arith, b, w, some);
      slot = rw size (λ p. (c.below-at.ensures.slot p ∙ i.slot some));
      above = passed _ c.args.rows.now c.args.hash c.args.range.now c.args.from c.loop-at.at c.below-at.result
          (c.loop-at.at - 1) some (i.slot some) (omega (arith, some))
          (λ _ s. c.if-is_wanted.ensures.other s.0 s.1 s.2) c.below-at.ensures.passed i.above;
    }
