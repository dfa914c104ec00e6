use Rattle.std.proofs.Common.{◌≡◌, true, take}
use Rattle.std.specs.List.{list_all}
use Rattle.chr_base.specs.Programs.{declarations, declares_atom}
use Rattle.chr_replica.proofs.declared.declares_atoms.Given as goal

abbrev pub invariant-loop-atom : goal.invariant-loop-atom
invariant-loop-atom l = list_all (declares_atom (declarations l.program)) (take l.atom-index l.atoms) ≡ true
