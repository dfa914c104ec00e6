use Rattle.std.proofs.Common.{◌≡◌, map, drop}
use Rattle.chr_syntax.specs.Views.{atom_view}
use Rattle.chr_read.specs.working.RuleParts.{stands_in}
use Rattle.chr_read.proofs.binding.stands_in.Given as goal

abbrev pub invariant-loop-atom : goal.invariant-loop-atom
invariant-loop-atom l = stands_in l.name (map atom_view (drop l.atom-index l.atoms))
    ≡ stands_in l.name (map atom_view l.atoms)
