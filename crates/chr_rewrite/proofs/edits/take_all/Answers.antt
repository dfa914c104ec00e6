use Rattle.std.proofs.Common.{◌∙◌, arith}
use Rattle.chr_rewrite.proofs.Counting.{taken_more, missing, put_back}
use Rattle.chr_rewrite.proofs.edits.take_all.Goals as goal

pub returns-then-not-take_out-clause-seldom : goal.returns-then-not-take_out-clause-seldom
returns-then-not-take_out-clause-seldom c = missing c.args.items.now.items c.loop-i.items.items c.args.atoms.now
    c.loop-i.i c.index-atoms-i.result c.loop-i-test.true c.index-atoms-i.is c.loop-i.invariant.counts
    c.if-not-take_out.ensures.none

pub returns-then-not-take_out-clause-same : goal.returns-then-not-take_out-clause-same
returns-then-not-take_out-clause-same c = λ q. put_back q c.args.items.now.items c.loop-i.items.items
    c.take_out.new.items.items c.push_all.new.items.items _ (c.loop-i.invariant.counts q) c.if-not-take_out.ensures.same
    c.push_all.ensures.items

pub loop-i-preserved : goal.loop-i-preserved
loop-i-preserved c = record {
  counts = λ q. taken_more q c.args.items.now.items c.loop-i.items.items c.take_out.new.items.items c.args.atoms.now
      c.loop-i.i c.index-atoms-i.result c.loop-i-test.true c.index-atoms-i.is (c.loop-i.invariant.counts q)
      (c.if-not-take_out.ensures.taken q);
  len = omega (arith, c.if-not-take_out.ensures.shorter, c.loop-i.invariant.len);
  capacity = c.take_out.ensures.capacity ∙ c.loop-i.invariant.capacity;
}
