use Rattle.std.proofs.Common.{◌≡◌, ◌++◌, take}
use Rattle.chr_plans.specs.Grids.{live_atoms}
use Rattle.chr_columns.proofs.listing.push_rows.Given as goal

abbrev pub invariant-loop-row : goal.invariant-loop-row
invariant-loop-row l = l.atoms.items ≡ l.fn.atoms.items ++ live_atoms (take l.row l.table.rows)
