use Rattle.std.proofs.Common.{◌≡◌, take, ◌≤◌}
use Rattle.chr_base.specs.Atoms.{atom_cmp}
use Rattle.chr_base.specs.FinBag.{count_in}
use Rattle.chr_base.proofs.lists.count_of.Given as goal

abbrev pub invariant-loop-item : goal.invariant-loop-item
invariant-loop-item l = record {
  value : l.count ≡ count_in atom_cmp l.atom (take l.item-index l.items);
  bound : l.count ≤ l.item-index;
}
