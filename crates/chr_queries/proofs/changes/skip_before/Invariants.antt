use Rattle.std.proofs.Common.{◌≡◌, length}
use Rattle.chr_base.specs.Atoms.{atom_cmp}
use Rattle.chr_queries.specs.working.Surplus.{without_before}
use Rattle.chr_queries.proofs.changes.skip_before.Given as goal

abbrev pub invariant-loop-rest : goal.invariant-loop-rest
invariant-loop-rest l = without_before atom_cmp l.atom l.rest ≡ without_before atom_cmp l.atom l.atoms

abbrev pub decreases-loop-rest : goal.decreases-loop-rest
decreases-loop-rest l = length l.rest
