use Rattle.std.proofs.Common.{◌≡◌, ◌≤◌, take}
use Rattle.std.specs.List.{All}
use Rattle.chr_ops.specs.declared.id.OpId.{OpId}
use Rattle.chr_ops.specs.News.{is_one_of}
use Rattle.chr_ops.specs.Summaries.{covers}
use Rattle.chr_ops.proofs.runs.runs_of.Given as goal

abbrev pub invariant-loop-id : goal.invariant-loop-id
invariant-loop-id l = record {
  ranges : All (λ r. r.lo ≤ r.hi) l.runs.items;
  covering : (q : OpId) → covers l.runs.items q ≡ is_one_of (take l.id-index l.ids) q;
}
