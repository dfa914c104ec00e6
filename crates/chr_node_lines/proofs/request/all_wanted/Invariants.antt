use Rattle.std.proofs.Common.{◌≡◌, drop, map}
use Rattle.serde_json.specs.View.{view as data_of}
use Rattle.chr_base.specs.Traversals.{each}
use Rattle.chr_base.proofs.Traversals.{front}
use Rattle.chr_node_lines.specs.Asked.{wanted_of}
use Rattle.chr_node_lines.proofs.request.all_wanted.Given as goal

abbrev pub invariant-loop-value : goal.invariant-loop-value
invariant-loop-value l =
    front l.found.items (each wanted_of (map data_of (drop l.value-index l.values)))
    ≡ each wanted_of (map data_of l.values)
