use Rattle.std.proofs.Common.{◌≡◌, map, take}
use Rattle.serde_json.specs.View.{view as data_of}
use Rattle.chr_base.specs.Programs.{declarations}
use Rattle.chr_json.specs.Printed.{atom_data}
use Rattle.chr_exchange.specs.Texts.{spelt_atom}
use Rattle.chr_node_lines.proofs.reply.atoms_value.Given as goal

abbrev pub invariant-loop-atom : goal.invariant-loop-atom
invariant-loop-atom l =
    map data_of l.items.items ≡ map atom_data (map (spelt_atom (declarations l.program)) (take l.atom-index l.atoms))
