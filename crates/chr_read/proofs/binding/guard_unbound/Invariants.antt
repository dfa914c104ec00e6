use Rattle.std.proofs.Common.{◌≡◌, map, drop, option_map}
use Rattle.std.specs.List.{list_any}
use Rattle.chr_syntax.specs.Views.{comparison_view, rule_view}
use Rattle.chr_read.specs.Faults.{present}
use Rattle.chr_read.specs.working.RuleParts.{comparison_unbound}
use Rattle.chr_read.proofs.binding.guard_unbound.Given as goal

abbrev pub invariant-loop-item : goal.invariant-loop-item
invariant-loop-item l = list_any (comparison_unbound (rule_view l.rule))
    (present (map (option_map comparison_view) (drop l.item-index l.item-items)))
    ≡ list_any (comparison_unbound (rule_view l.rule)) (present (map (option_map comparison_view) l.item-items))
