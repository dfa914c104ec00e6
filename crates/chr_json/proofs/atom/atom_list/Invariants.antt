use Rattle.std.proofs.Common.{◌≡◌, map, drop}
use Rattle.serde_json.specs.View.{view as data_of}
use Rattle.chr_base.specs.Traversals.{each}
use Rattle.chr_json.specs.NamedAtoms.{named_atom_of}
use Rattle.chr_json.specs.Reads.{raw_atom_view}
use Rattle.chr_base.proofs.Traversals.{front}
use Rattle.std.specs.Prelude.{vec_len}
use Rattle.chr_json.proofs.atom.atom_list.Given as goal

abbrev pub invariant-loop-value : goal.invariant-loop-value
invariant-loop-value l = (front (map raw_atom_view l.found.items)
    (each named_atom_of (map data_of (drop l.value-index l.values))) ≡ each named_atom_of (map data_of l.values))
    × (vec_len l.found ≡ l.value-index)
