use Rattle.std.proofs.Common.{◌≡◌, ◌≤◌, All, map, drop}
use Rattle.serde_json.specs.View.{view as data_of}
use Rattle.chr_base.proofs.Traversals.{front}
use Rattle.chr_json.specs.Values.{joined}
use Rattle.chr_json.specs.Summaries.{origin_ranges_of}
use Rattle.chr_json.proofs.summary.ranges_in.Given as goal

abbrev pub invariant-loop-value : goal.invariant-loop-value
invariant-loop-value l =
    (front l.found.items (joined origin_ranges_of (map data_of (drop l.value-index l.values)))
    ≡ joined origin_ranges_of (map data_of l.values))
    × All (λ r. r.lo ≤ r.hi) l.found.items
