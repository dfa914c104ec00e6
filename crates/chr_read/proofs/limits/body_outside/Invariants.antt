use Rattle.std.proofs.Common.{◌≡◌, map, drop, option_map}
use Rattle.std.specs.List.{list_any}
use Rattle.chr_syntax.specs.Views.{atom_view}
use Rattle.chr_read.specs.Faults.{present}
use Rattle.chr_read.specs.working.RuleParts.{atom_outside}
use Rattle.chr_read.proofs.limits.body_outside.Given as goal

abbrev pub invariant-loop-item : goal.invariant-loop-item
invariant-loop-item l = list_any atom_outside (present (map (option_map atom_view) (drop l.item-index l.items)))
    ≡ list_any atom_outside (present (map (option_map atom_view) l.items))
