use Rattle.std.proofs.Common.{◌≡◌, ◌+◌, ◌++◌, ◌≤◌, drop, map, option_map, length, false}
use Rattle.std.specs.List.{list_any}
use Rattle.chr_base.specs.declared.limits.TheConstants.{MAX_BODY}
use Rattle.chr_base.specs.Programs.{declarations}
use Rattle.chr_syntax.specs.Views.{atom_view}
use Rattle.chr_read.specs.Faults.{present}
use Rattle.chr_read.specs.working.RuleParts.{parts_of_atom_over}
use Rattle.chr_read.specs.Resolving.{body_atom}
use Rattle.chr_read.specs.working.Views.{names_view}
use Rattle.chr_read.proofs.resolve.body.Given as goal

abbrev pub invariant-loop-item : goal.invariant-loop-item
invariant-loop-item l = record {
  found : l.found.items ++ map (body_atom (declarations l.program) (names_view l.names))
      (present (map (option_map atom_view) (drop l.item-index l.items)))
      ≡ map (body_atom (declarations l.program) (names_view l.names)) (present (map (option_map atom_view) l.items));
  sound : list_any parts_of_atom_over (present (map (option_map atom_view) (drop l.item-index l.items))) ≡ false;
  count : length l.found.items + length (present (map (option_map atom_view) (drop l.item-index l.items))) ≤ MAX_BODY;
}
