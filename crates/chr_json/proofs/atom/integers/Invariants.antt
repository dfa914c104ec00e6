use Rattle.std.proofs.Common.{◌≡◌, map, drop}
use Rattle.serde_json.specs.View.{view as data_of}
use Rattle.chr_base.specs.Traversals.{each}
use Rattle.chr_json.specs.Values.{integer_of}
use Rattle.chr_base.proofs.Traversals.{front}
use Rattle.chr_json.proofs.atom.integers.Given as goal

abbrev pub invariant-loop-value : goal.invariant-loop-value
invariant-loop-value l = front l.found.items (each integer_of (map data_of (drop l.value-index l.values)))
    ≡ each integer_of (map data_of l.values)
