use Rattle.std.proofs.Common.{◌≡◌, All, map, drop}
use Rattle.serde_json.specs.View.{view as data_of}
use Rattle.chr_base.proofs.Traversals.{front}
use Rattle.chr_json.specs.Values.{joined}
use Rattle.chr_json.specs.Deltas.{group_of}
use Rattle.chr_json.specs.Reads.{raw_op_view, IsSizedOperation}
use Rattle.chr_json.proofs.delta.grouped.Given as goal

abbrev pub invariant-loop-value : goal.invariant-loop-value
invariant-loop-value l =
    (front (map raw_op_view l.found.items) (joined group_of (map data_of (drop l.value-index l.values)))
    ≡ joined group_of (map data_of l.values))
    × All IsSizedOperation l.found.items
