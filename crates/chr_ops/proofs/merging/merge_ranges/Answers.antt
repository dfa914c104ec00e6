use Rattle.std.proofs.Common.{ap, sym, ◌∙◌, ◌||◌, get_or}
use Rattle.chr_ops.specs.declared.range.IdRange.{IdRange}
use Rattle.chr_ops.specs.Summaries.{in_range}
use Rattle.chr_ops.proofs.MergeSteps.{covers_more, starts_more}
use Rattle.chr_ops.proofs.merging.merge_ranges.Goals as goal

pub loop-range-preserved : goal.loop-range-preserved
loop-range-preserved c =
    let first : IdRange = record { origin = 0; lo = 0; hi = 0 } in
    let merged = c.in_ok-push_range.ensures in
    record {
      apart = merged.apart;
      covering = λ id. merged.covering id ∙ ap (λ b. b
          || in_range (get_or c.args.ranges.now c.loop-range.range-index first) id) (c.loop-range.invariant.covering id)
          ∙ sym (covers_more c.args.ranges.now c.loop-range.range-index first id c.loop-range-test.true);
      in_order = λ more. starts_more c.args.ranges.now c.loop-range.range-index first c.loop-range.merged.items
          c.push_range.new.merged.items c.requires.in_order more
          (c.loop-range.invariant.in_order c.loop-range-test.true) merged;
    }
