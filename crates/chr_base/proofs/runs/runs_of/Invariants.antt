use Rattle.std.proofs.Common.{◌≡◌, ◌++◌, length}
use Rattle.std.specs.Prelude.{IsTrue}
use Rattle.std.specs.List.{All, flat_map}
use Rattle.chr_base.specs.Atoms.{atom_cmp}
use Rattle.chr_base.specs.FinBag.{is_rising}
use Rattle.chr_base.specs.working.Runs.{IsRun}
use Rattle.chr_base.proofs.runs.runs_of.Given as goal

abbrev pub invariant-loop-rest : goal.invariant-loop-rest
invariant-loop-rest l =
    (flat_map (λ r. r.now) l.runs.items ++ l.rest ≡ l.atoms) × All (λ r. IsRun r.now) l.runs.items
    × IsTrue (is_rising atom_cmp l.rest)

abbrev pub decreases-loop-rest : goal.decreases-loop-rest
decreases-loop-rest l = length l.rest
