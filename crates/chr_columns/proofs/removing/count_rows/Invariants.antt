use Rattle.std.proofs.Common.{◌≡◌, ◌≤◌, take}
use Rattle.chr_base.specs.Atoms.{atom_cmp}
use Rattle.chr_base.specs.FinBag.{count_in}
use Rattle.chr_plans.specs.Grids.{live_atoms}
use Rattle.chr_columns.proofs.removing.count_rows.Given as goal

abbrev pub invariant-loop-row : goal.invariant-loop-row
invariant-loop-row l = record {
  value : l.count ≡ count_in atom_cmp l.atom (live_atoms (take l.row l.table.rows));
  bound : l.count ≤ l.row;
}
