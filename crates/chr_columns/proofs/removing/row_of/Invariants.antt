use Rattle.std.proofs.Common.{◌≡◌, ℕ, take}
use Rattle.chr_base.specs.Atoms.{atom_cmp}
use Rattle.chr_base.specs.FinBag.{count_in}
use Rattle.chr_plans.specs.Grids.{live_atoms}
use Rattle.chr_columns.proofs.removing.row_of.Given as goal

abbrev pub invariant-loop-row : goal.invariant-loop-row
invariant-loop-row l = ◌≡◌ {A = ℕ} (count_in atom_cmp l.atom (live_atoms (take l.row l.table.rows))) 0
