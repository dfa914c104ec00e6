use Rattle.std.proofs.Common.{◌≡◌, ◌++◌, drop}
use Rattle.std.specs.Prelude.{codes, string_bytes}
use Rattle.chr_base.specs.Programs.{declarations}
use Rattle.std.specs.List.{flat_map}
use Rattle.chr_base.specs.Texts.{atom_text}
use Rattle.chr_base.proofs.text.push_more_atoms.Given as goal

abbrev pub invariant-loop-atom : goal.invariant-loop-atom
invariant-loop-atom l = string_bytes l.out ++ flat_map (λ a. codes ", " ++ atom_text (declarations l.program) a)
    (drop l.atom-index l.atoms) ≡ string_bytes l.fn.out
    ++ flat_map (λ a. codes ", " ++ atom_text (declarations l.program) a) l.atoms
