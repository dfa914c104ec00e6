use Rattle.std.proofs.Common.{◌≡◌, take}
use Rattle.chr_base.specs.Weights.{total_weight}
use Rattle.chr_weights.specs.Weights.{weight_in}
use Rattle.chr_weights.proofs.sums.atoms_weight.Given as goal

abbrev pub invariant-loop-atom : goal.invariant-loop-atom
invariant-loop-atom l = l.sum ≡ total_weight (weight_in l.program) (take l.atom-index l.atoms)
