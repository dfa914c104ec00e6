use Rattle.chr_tables.specs.LaneRows.{lent_columns, NonePasses}
use Rattle.chr_tables.proofs.lanes.rows.first_among.Given as goal

abbrev pub invariant-loop-row : goal.invariant-loop-row
invariant-loop-row l = NonePasses (lent_columns l.columns) l.tests l.from l.row
