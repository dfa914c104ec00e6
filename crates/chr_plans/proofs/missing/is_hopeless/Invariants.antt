use Rattle.std.proofs.Common.{◌≡◌}
use Rattle.chr_plans.proofs.missing.is_hopeless.Given as goal

abbrev pub invariant-loop-later : goal.invariant-loop-later
invariant-loop-later g l = record {
  rows : g.R.Rows.rows l.rows ≡ g.R.Rows.rows l.fn.rows;
  columns : g.R.Rows.columns l.rows ≡ g.R.Rows.columns l.fn.rows;
  tables : g.R.Rows.tables l.rows ≡ g.R.Rows.tables l.fn.rows;
  rank : g.R.Rows.rank l.rows ≡ g.R.Rows.rank l.fn.rows;
}
