use Rattle.std.proofs.Common.{◌≡◌, map, drop}
use Rattle.chr_base.specs.Programs.{declarations}
use Rattle.chr_base.specs.Traversals.{each}
use Rattle.chr_base.proofs.Traversals.{front}
use Rattle.chr_json.specs.Reads.{raw_atom_view}
use Rattle.chr_exchange.specs.Names.{named_atom, named_atoms}
use Rattle.chr_exchange.proofs.named.named_atoms.Given as goal

abbrev pub invariant-loop-word : goal.invariant-loop-word
invariant-loop-word l =
    front l.atoms.items (each (named_atom (declarations l.program)) (map raw_atom_view (drop l.word-index l.words)))
    ≡ named_atoms (declarations l.program) (map raw_atom_view l.words)
