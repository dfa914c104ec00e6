use Rattle.std.proofs.Common.{◌≡◌, take}
use Rattle.chr_base.specs.Rules.{atoms_at}
use Rattle.chr_confluence.specs.Representatives.{assignment}
use Rattle.chr_overlaps.proofs.instances.instances.Given as goal

abbrev pub invariant-loop-head : goal.invariant-loop-head
invariant-loop-head l = l.atoms.items ≡ atoms_at (assignment l.classes l.values) (take l.head-index l.head-items)
