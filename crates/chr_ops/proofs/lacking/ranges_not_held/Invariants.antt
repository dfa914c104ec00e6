use Rattle.std.proofs.Common.{◌≡◌, ◌≤◌, ◌&&◌, not, take, All}
use Rattle.std.specs.FinMap as map
use Rattle.chr_ops.specs.declared.id.OpId.{OpId}
use Rattle.chr_ops.specs.News.{is_one_of}
use Rattle.chr_ops.specs.Summaries.{covers}
use Rattle.chr_ops.proofs.lacking.ranges_not_held.Given as goal

abbrev pub invariant-loop-id : goal.invariant-loop-id
invariant-loop-id l = record {
  ranges : All (λ r. r.lo ≤ r.hi) l.ranges.items;
  covers : (id : OpId) → covers l.ranges.items id ≡ (is_one_of (take l.id-index l.ids) id
      && not (map.contains_key l.held id));
}
