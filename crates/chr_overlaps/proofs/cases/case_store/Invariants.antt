use Rattle.std.proofs.Common.{◌≡◌, take}
use Rattle.chr_overlaps.proofs.cases.case_store.Given as goal

abbrev pub invariant-loop-atom : goal.invariant-loop-atom
invariant-loop-atom l = l.atoms.items ≡ take l.atom-index l.left
