use Rattle.std.proofs.Common.{◌≡◌, map, drop, option_map}
use Rattle.chr_base.specs.Programs.{declarations}
use Rattle.chr_syntax.specs.Views.{atom_view}
use Rattle.chr_read.specs.working.RuleParts.{any_undeclared}
use Rattle.chr_read.specs.Faults.{present}
use Rattle.chr_read.proofs.symbols.items_undeclared.Given as goal

abbrev pub invariant-loop-item : goal.invariant-loop-item
invariant-loop-item l = any_undeclared (declarations l.program)
    (present (map (option_map atom_view) (drop l.item-index l.items))) ≡ any_undeclared (declarations l.program)
    (present (map (option_map atom_view) l.items))
