use Rattle.std.proofs.Common.{◌≡◌, ◌+◌, ◌≤◌, map, drop, option_map, length}
use Rattle.chr_syntax.specs.Views.{atom_view}
use Rattle.chr_read.specs.Faults.{present}
use Rattle.chr_read.proofs.limits.atoms.Given as goal

abbrev pub invariant-loop-item : goal.invariant-loop-item
invariant-loop-item l = record {
  counted : l.count + length (present (map (option_map atom_view) (drop l.item-index l.items)))
      ≡ length (present (map (option_map atom_view) l.items));
  within : l.count ≤ l.item-index;
}
