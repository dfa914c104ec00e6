use Rattle.std.proofs.Common.{length}
use Rattle.chr_overlaps.proofs.Bounds.{comparisons_below}
use Rattle.chr_overlaps.proofs.unify.push_guard.Goals as goal

pub class_comparison-requires-clause-left : goal.class_comparison-requires-clause-left
class_comparison-requires-clause-left c = (comparisons_below c.args.rule.now c.args.shift
    (length c.args.classes.now.terms.items) c.loop-comparison.comparison-index c.as_slice-comparison-items.result.now _
    c.as_slice-comparison-items.ensures.value c.loop-comparison-test.true c.requires.table).0

pub class_comparison-requires-clause-right : goal.class_comparison-requires-clause-right
class_comparison-requires-clause-right c = (comparisons_below c.args.rule.now c.args.shift
    (length c.args.classes.now.terms.items) c.loop-comparison.comparison-index c.as_slice-comparison-items.result.now _
    c.as_slice-comparison-items.ensures.value c.loop-comparison-test.true c.requires.table).1
