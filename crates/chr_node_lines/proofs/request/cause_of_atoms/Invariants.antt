use Rattle.std.proofs.Common.{◌≡◌, drop, map}
use Rattle.chr_base.specs.Programs.{declarations}
use Rattle.chr_json.specs.Reads.{raw_atom_view}
use Rattle.chr_node_lines.specs.Asked.{cause_of_atoms}
use Rattle.chr_node_lines.proofs.request.cause_of_atoms.Given as goal

abbrev pub invariant-loop-word : goal.invariant-loop-word
invariant-loop-word l =
    cause_of_atoms (declarations l.program) (map raw_atom_view (drop l.word-index l.words))
    ≡ cause_of_atoms (declarations l.program) (map raw_atom_view l.words)
