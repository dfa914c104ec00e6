use Rattle.std.proofs.Common.{◌∙◌, arith}
use Rattle.chr_indexes.proofs.ranges.index.Index.down_to.Goals as goal

pub loop-at-init : goal.loop-at-init
loop-at-init c = record {
  same = c.first_place-at.ensures.same;
  wanted = c.first_place-at.ensures.wanted;
  none = λ r l w. c.first_place-at.ensures.none_above r w;
}

pub loop-at-preserved : goal.loop-at-preserved
loop-at-preserved c =
    let above = c.loop-at-test.true in
    let between = rw c.loop-at.invariant.same at c.next_place-at.ensures.none_between in
    record {
      same = c.next_place-at.ensures.same ∙ c.loop-at.invariant.same;
      wanted = rw c.loop-at.invariant.same at c.next_place-at.ensures.wanted;
      none = λ r l w. between r (omega (arith, l, above)) w;
    }
