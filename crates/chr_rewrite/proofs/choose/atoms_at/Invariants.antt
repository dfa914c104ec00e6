use Rattle.std.proofs.Common.{◌≡◌, take}
use Rattle.chr_rewrite.specs.working.Choices.{chosen_atoms}
use Rattle.chr_rewrite.proofs.choose.atoms_at.Given as goal

abbrev pub invariant-loop-i : goal.invariant-loop-i
invariant-loop-i l = l.atoms.items ≡ chosen_atoms l.items (take l.i-index l.indices)
