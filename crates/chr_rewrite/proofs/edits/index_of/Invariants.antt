use Rattle.std.proofs.Common.{◌≡◌, take}
use Rattle.chr_base.specs.Atoms.{atom_cmp}
use Rattle.chr_base.specs.FinBag.{count_in}
use Rattle.chr_rewrite.proofs.edits.index_of.Given as goal

abbrev pub invariant-loop-i : goal.invariant-loop-i
invariant-loop-i l = count_in atom_cmp l.atom (take l.i l.items) ≡ 0
