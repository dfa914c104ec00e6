use Rattle.std.proofs.Common.{◌≡◌, drop}
use Rattle.chr_base.specs.working.AtomLists.{are_same}
use Rattle.chr_base.proofs.lists.same_atoms.Given as goal

abbrev pub invariant-loop-i : goal.invariant-loop-i
invariant-loop-i l = are_same (drop l.i l.left) (drop l.i l.right) ≡ are_same l.left l.right
