use Rattle.std.proofs.Common.{arith, sym, ◌∙◌}
use Rattle.chr_base.proofs.Counts.{counted_yes, counted_no}
use Rattle.chr_base.proofs.lists.count_of.Goals as goal
use Rattle.chr_base.proofs.lists.count_of.Goals.{then-is_same, else-is_same}

pub loop-item-preserved : goal.loop-item-preserved
loop-item-preserved c = record {
  value = elim c.if-is_same.branch [
    | then-is_same w ↦ counted_yes _ _ _ _ _ c.item-item.result c.loop-item-test.true c.item-item.is
        (sym c.is_same.ensures ∙ w.if-is_same.true) c.loop-item.invariant.value w.count-is
    | else-is_same w ↦ counted_no _ _ _ _ _ c.item-item.result c.loop-item-test.true c.item-item.is
        (sym c.is_same.ensures ∙ w.if-is_same.false) c.loop-item.invariant.value w.count-is
  ];
  bound = elim c.if-is_same.branch [ then-is_same w ↦ omega arith | else-is_same w ↦ omega arith ];
}
