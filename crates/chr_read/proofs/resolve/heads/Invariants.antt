use Rattle.std.proofs.Common.{◌≡◌, ◌+◌, ◌*◌, ◌++◌, ◌≤◌, drop, map, length, false}
use Rattle.std.specs.List.{list_any}
use Rattle.chr_base.specs.declared.limits.TheConstants.{MAX_ARITY}
use Rattle.chr_base.specs.Programs.{declarations}
use Rattle.chr_syntax.specs.Views.{atom_view}
use Rattle.chr_read.specs.working.RuleParts.{parts_of_atom_over}
use Rattle.chr_read.specs.Resolving.{heads, after_heads}
use Rattle.chr_read.specs.working.Views.{names_view}
use Rattle.chr_read.proofs.resolve.heads.Given as goal

abbrev pub invariant-loop-atom : goal.invariant-loop-atom
invariant-loop-atom l = record {
  found : l.found.items ++ heads (declarations l.program) (names_view l.names.items)
      (map atom_view (drop l.atom-index l.atoms)) ≡ heads (declarations l.program) (names_view l.fn.names.items)
      (map atom_view l.atoms);
  names : after_heads (names_view l.names.items) (map atom_view (drop l.atom-index l.atoms))
      ≡ after_heads (names_view l.fn.names.items) (map atom_view l.atoms);
  sound : list_any parts_of_atom_over (map atom_view (drop l.atom-index l.atoms)) ≡ false;
  bound : length l.names.items ≤ length l.fn.names.items + MAX_ARITY * l.atom-index;
  count : length l.found.items ≡ l.atom-index;
}
