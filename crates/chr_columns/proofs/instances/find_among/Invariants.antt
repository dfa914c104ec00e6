use Rattle.std.specs.Prelude.{Some, None}
use Rattle.std.proofs.Common.{◌≡◌, ℕ, ◌-◌, ◌<◌, ◌≤◌, get_or}
use Rattle.chr_base.specs.declared.atom.Atom.{Atom}
use Rattle.chr_plans.specs.Seats.{NoPartners}
use Rattle.chr_columns.specs.working.Listing.{rows_in_turn}
use Rattle.chr_columns.specs.working.Finding.{only_table, rows_but}
use Rattle.chr_columns.proofs.instances.find_among.Given as goal

abbrev pub invariant-loop-active : goal.invariant-loop-active
invariant-loop-active l = record {
  within : l.active ≤ l.rows;
  none : (n : ℕ) (a : Atom) → n < l.active → get_or (rows_in_turn l.tables l.fresh) n None ≡ Some a
      → NoPartners l.rule (only_table (rows_but l.tables l.fresh n)) 0 a;
}

abbrev pub decreases-loop-active : goal.decreases-loop-active
decreases-loop-active l = l.rows - l.active
