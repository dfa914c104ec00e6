use Rattle.std.proofs.Common.{◌≡◌, ◌≤◌, All, map, drop}
use Rattle.serde_json.specs.View.{view as data_of}
use Rattle.chr_base.specs.Traversals.{each}
use Rattle.chr_base.proofs.Traversals.{front}
use Rattle.chr_json.specs.Summaries.{range_of}
use Rattle.chr_json.proofs.summary.add_ranges.Given as goal

abbrev pub invariant-loop-value : goal.invariant-loop-value
invariant-loop-value l =
    (front l.found.items (each (range_of l.fn.origin) (map data_of (drop l.value-index l.values)))
    ≡ front l.fn.found.items (each (range_of l.fn.origin) (map data_of l.values)))
    × (All (λ r. r.lo ≤ r.hi) l.fn.found.items → All (λ r. r.lo ≤ r.hi) l.found.items)
