use Rattle.std.specs.FinMap as map
use Rattle.chr_ops.specs.working.Walks.{covered}
use Rattle.chr_ops.proofs.EntryLists.{ids_rise}
use Rattle.chr_ops.proofs.CoveredLists.{one_apart, copied_more, copied_all}
use Rattle.chr_ops.proofs.lacking.covered_in.Goals as goal

pub push_within-requires-clause-range : goal.push_within-requires-clause-range
push_within-requires-clause-range c = (one_apart c.args.ranges.now c.loop-range.range-index c.loop-range-test.true
    c.loop-range.invariant.apart).0

pub loop-range-preserved : goal.loop-range-preserved
loop-range-preserved c =
    let es = map.entries c.args.held.now in
    rw c.in_ok-push_within.ensures (record {
      found = copied_more c.loop-range.ops.items (covered c.args.ranges.now es) es c.args.ranges.now
          c.loop-range.range-index c.loop-range-test.true c.loop-range.invariant.apart
          (ids_rise c.args.held.now) c.loop-range.invariant.found;
      apart = (one_apart c.args.ranges.now c.loop-range.range-index c.loop-range-test.true
          c.loop-range.invariant.apart).2;
    })

pub returns : goal.returns
returns c =
    let es = map.entries c.args.held.now in
    copied_all c.loop-range.ops.items (covered c.args.ranges.now es) es c.args.ranges.now c.loop-range.range-index
    c.loop-range-test.false c.loop-range.invariant.found
