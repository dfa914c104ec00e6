use Rattle.std.proofs.Common.{◌≡◌, ◌<◌, length, take, get_or}
use Rattle.chr_ops.specs.declared.id.OpId.{OpId}
use Rattle.chr_ops.specs.Summaries.{covers, IsApart}
use Rattle.chr_ops.specs.working.Merging.{AllStartBy}
use Rattle.chr_ops.proofs.merging.merge_ranges.Given as goal

abbrev pub invariant-loop-range : goal.invariant-loop-range
invariant-loop-range l = record {
  apart : IsApart l.merged.items;
  covering : (id : OpId) → covers l.merged.items id ≡ covers (take l.range-index l.ranges) id;
  in_order : l.range-index < length l.ranges → AllStartBy l.merged.items
      (get_or l.ranges l.range-index record { origin = 0; lo = 0; hi = 0 });
}
