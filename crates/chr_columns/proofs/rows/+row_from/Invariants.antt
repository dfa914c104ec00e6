use Rattle.std.proofs.Common.{length}
use Rattle.chr_columns.proofs.rows.+row_from.Given as goal

abbrev pub decreases-row_from : goal.decreases-row_from
decreases-row_from l = length l.tables.now
