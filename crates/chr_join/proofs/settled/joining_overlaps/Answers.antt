use Rattle.std.proofs.Common.{sym, subst}
use Rattle.chr_weights.specs.WeighedPrograms.{rules_in}
use Rattle.chr_overlaps.specs.OverlapLists.{IsOverlapOf}
use Rattle.chr_join.proofs.settled.joining_overlaps.Goals as goal

pub overlap_joins-requires-clause-overlap : goal.overlap_joins-requires-clause-overlap
overlap_joins-requires-clause-overlap c =
    subst (IsOverlapOf (rules_in c.args.weighed.now)) (sym c.index-overlaps-place.is)
    (c.requires.overlaps c.loop-place.place c.index-overlaps-place.result c.loop-place-test.true)
