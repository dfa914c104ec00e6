use Rattle.std.proofs.Common.{◌≡◌, take}
use Rattle.chr_base.proofs.derivation.Step.copy.Given as goal

abbrev pub invariant-loop-atom : goal.invariant-loop-atom
invariant-loop-atom l = l.heads.items ≡ take l.atom-index l.atom-items
