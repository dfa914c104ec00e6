use Rattle.std.proofs.Common.{◌≡◌, map, drop}
use Rattle.chr_base.specs.Programs.{declarations}
use Rattle.chr_syntax.specs.Views.{atom_view}
use Rattle.chr_read.specs.working.RuleParts.{any_undeclared}
use Rattle.chr_read.proofs.symbols.any_undeclared.Given as goal

abbrev pub invariant-loop-atom : goal.invariant-loop-atom
invariant-loop-atom l = any_undeclared (declarations l.program) (map atom_view (drop l.atom-index l.atoms))
    ≡ any_undeclared (declarations l.program) (map atom_view l.atoms)
