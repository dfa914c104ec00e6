use Rattle.std.proofs.Common.{sym, subst}
use Rattle.chr_weights.specs.WeighedPrograms.{rules_in}
use Rattle.chr_overlaps.specs.OverlapLists.{IsOverlapOf}
use Rattle.chr_join.proofs.totals.new_guards.Goals as goal

pub unified-requires : goal.unified-requires
unified-requires c = subst (IsOverlapOf (rules_in c.args.weighed.now)) (sym c.overlap-item.is)
    (c.requires.overlaps c.loop-overlap.overlap-index c.overlap-item.result c.loop-overlap-test.true)
