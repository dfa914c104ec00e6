use Rattle.std.proofs.Common.{◌≡◌, ◌+◌, ◌≤◌, map, drop, option_map, length}
use Rattle.chr_syntax.specs.Views.{comparison_view}
use Rattle.chr_read.specs.Faults.{present}
use Rattle.chr_read.proofs.limits.comparisons.Given as goal

abbrev pub invariant-loop-item : goal.invariant-loop-item
invariant-loop-item l = record {
  counted : l.count + length (present (map (option_map comparison_view) (drop l.item-index l.items)))
      ≡ length (present (map (option_map comparison_view) l.items));
  within : l.count ≤ l.item-index;
}
