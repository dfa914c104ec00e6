use Rattle.std.proofs.Common.{◌≡◌, map, drop}
use Rattle.std.specs.List.{list_any}
use Rattle.chr_syntax.specs.Views.{atom_view}
use Rattle.chr_read.specs.working.RuleParts.{parts_of_atom_over}
use Rattle.chr_read.proofs.limits.heads_over.Given as goal

abbrev pub invariant-loop-atom : goal.invariant-loop-atom
invariant-loop-atom l = list_any parts_of_atom_over (map atom_view (drop l.atom-index l.atoms))
    ≡ list_any parts_of_atom_over (map atom_view l.atoms)
