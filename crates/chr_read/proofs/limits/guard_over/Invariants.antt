use Rattle.std.proofs.Common.{◌≡◌, map, drop, option_map}
use Rattle.std.specs.List.{list_any}
use Rattle.chr_syntax.specs.Views.{comparison_view}
use Rattle.chr_read.specs.Faults.{present}
use Rattle.chr_read.specs.working.RuleParts.{comparison_over}
use Rattle.chr_read.proofs.limits.guard_over.Given as goal

abbrev pub invariant-loop-item : goal.invariant-loop-item
invariant-loop-item l = list_any comparison_over (present
    (map (option_map comparison_view) (drop l.item-index l.items))) ≡ list_any comparison_over
    (present (map (option_map comparison_view) l.items))
