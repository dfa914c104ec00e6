use Rattle.std.proofs.Common.{◌≡◌, ◌∷◌, ◌++◌, drop, flat_map, string_bytes}
use Rattle.serde_json.specs.Written.{compact_text}
use Rattle.chr_base.specs.Programs.{declarations}
use Rattle.chr_json.specs.Printed.{atom_data}
use Rattle.chr_exchange.specs.Texts.{spelt_atom}
use Rattle.chr_exchange.proofs.pieces.push_more_atoms.Given as goal

abbrev pub invariant-loop-atom : goal.invariant-loop-atom
invariant-loop-atom l =
    string_bytes l.out ++ flat_map (λ a. 44 ∷ compact_text (atom_data (spelt_atom (declarations l.program) a)))
    (drop l.atom-index l.atoms)
    ≡ string_bytes l.fn.out ++ flat_map (λ a. 44 ∷ compact_text (atom_data (spelt_atom (declarations l.program) a)))
    l.atoms
