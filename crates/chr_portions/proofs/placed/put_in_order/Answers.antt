use Rattle.std.proofs.Common.{arith, ◌∙◌}
use Rattle.chr_portions.proofs.placed.put_in_order.Goals as goal

pub loop-i-preserved : goal.loop-i-preserved
loop-i-preserved c =
    let i = c.loop-i.invariant in
    let few = i.few in record {
      listed = c.follow.ensures.listed ∙ i.listed;
      placed = c.follow.ensures.placed;
      few = c.follow.ensures.few ∙ few;
      below = λ p l. (c.follow.ensures.below p l ∙ i.below p l);
      size = c.follow.ensures.size ∙ i.size;
      same = λ r l. (c.follow.ensures.same r (omega (arith, l, few)) ∙ i.same r l);
    }
