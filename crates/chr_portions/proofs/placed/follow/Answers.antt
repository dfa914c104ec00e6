use Rattle.std.proofs.Common.{arith, ◌∙◌}
use Rattle.chr_portions.proofs.placed.follow.Goals as goal

pub loop-preserved : goal.loop-preserved
loop-preserved c =
    let i = c.loop.invariant in
    let few = i.few in
    let listed = i.listed in
    let size = c.settle-next.ensures in
    let less = c.if-next-entries.false in record {
      at = omega (arith, less, size, listed);
      listed = size ∙ listed;
      placed = c.swap.ensures.placed;
      few = c.swap.ensures.few ∙ few;
      below = λ p l. (c.swap.ensures.others c.args.start (omega arith) (omega arith) p l ∙ i.below p l);
      size = c.swap.ensures.size ∙ i.size;
      same = λ r l. (c.swap.ensures.same r (omega (arith, l, few)) ∙ i.same r l);
    }
