use Rattle.std.proofs.Common.{◌≡◌, ◌+◌, ◌++◌, ◌≤◌, drop, map, option_map, length}
use Rattle.chr_base.specs.declared.limits.TheConstants.{MAX_COMPARISONS}
use Rattle.chr_syntax.specs.Views.{comparison_view}
use Rattle.chr_read.specs.Faults.{present}
use Rattle.chr_read.specs.Resolving.{resolved_comparison}
use Rattle.chr_read.specs.working.Views.{names_view}
use Rattle.chr_read.proofs.resolve.guard.Given as goal

abbrev pub invariant-loop-item : goal.invariant-loop-item
invariant-loop-item l = record {
  found : l.found.items ++ map (resolved_comparison (names_view l.names))
      (present (map (option_map comparison_view) (drop l.item-index l.items)))
      ≡ map (resolved_comparison (names_view l.names)) (present (map (option_map comparison_view) l.items));
  count : length l.found.items + length (present (map (option_map comparison_view)
      (drop l.item-index l.items))) ≤ MAX_COMPARISONS;
}
