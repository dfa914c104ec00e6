use Rattle.std.proofs.Common.{◌≡◌, ◌-◌, length}
use Rattle.std.specs.Prelude.{IfSome, IsTrue, is_some}
use Rattle.chr_base.specs.Rules.{heads_of}
use Rattle.chr_plans.specs.working.Searching.{AgreeAtKnown, Past, looked_in}
use Rattle.chr_plans.proofs.Searches.{bound}
use Rattle.chr_plans.proofs.search.+complete.Given as goal

abbrev pub decreases-complete : goal.decreases-complete
decreases-complete g l = length l.lookups.now - l.done

abbrev pub invariant-loop-next : goal.invariant-loop-next
invariant-loop-next g l = record {
  rows : g.R.Rows.rows l.rows ≡ g.R.Rows.rows l.fn.rows;
  columns : g.R.Rows.columns l.rows ≡ g.R.Rows.columns l.fn.rows;
  tables : g.R.Rows.tables l.rows ≡ g.R.Rows.tables l.fn.rows;
  rank : g.R.Rows.rank l.rows ≡ g.R.Rows.rank l.fn.rows;
  heads : length l.heads ≡ length (heads_of l.rule);
  seats : length l.seats ≡ length (heads_of l.rule);
  same : AgreeAtKnown (looked_in l.lookups) l.active l.done l.heads l.seats l.fn.heads l.fn.seats;
  lives : IfSome l.next (λ row. IsTrue (is_some (g.R.Rows.rows l.fn.rows l.lookup.table row)));
  past : Past l.rule (g.R.Rows.rows l.fn.rows) (g.R.Rows.rank l.fn.rows l.lookup.table l.lookup.index) l.active
      (looked_in l.lookups) l.done l.lookup.partner.place l.fn.heads l.fn.seats
      (bound (g.R.Rows.rank l.fn.rows l.lookup.table l.lookup.index) l.next);
}

abbrev pub decreases-loop-next : goal.decreases-loop-next
decreases-loop-next g l = bound (g.R.Rows.rank l.fn.rows l.lookup.table l.lookup.index) l.next
