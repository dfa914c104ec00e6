use Rattle.std.proofs.Common.{◌≡◌, All, map, drop}
use Rattle.serde_json.specs.View.{view as data_of}
use Rattle.chr_base.specs.Traversals.{each}
use Rattle.chr_base.proofs.Traversals.{front}
use Rattle.chr_json.specs.Deltas.{operation_of}
use Rattle.chr_json.specs.Reads.{raw_op_view, IsSizedOperation}
use Rattle.chr_json.proofs.delta.operation_list.Given as goal

abbrev pub invariant-loop-value : goal.invariant-loop-value
invariant-loop-value l =
    (front (map raw_op_view l.found.items) (each operation_of (map data_of (drop l.value-index l.values)))
    ≡ each operation_of (map data_of l.values))
    × All IsSizedOperation l.found.items
