use Rattle.std.proofs.Common.{◌-◌, ◌≤◌}
use Rattle.chr_tables.specs.LaneRows.{lent_columns, NonePasses, HaveValues}
use Rattle.chr_tables.proofs.lanes.rows.first_row.Given as goal

abbrev pub invariant-loop-at : goal.invariant-loop-at
invariant-loop-at l = record {
  from_on : l.from ≤ l.at;
  within : l.at ≤ l.rows;
  none : HaveValues (lent_columns l.columns) → NonePasses (lent_columns l.columns) l.tests l.from l.at;
}

abbrev pub decreases-loop-at : goal.decreases-loop-at
decreases-loop-at l = l.rows - l.at
