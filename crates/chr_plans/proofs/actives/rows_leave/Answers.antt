use Rattle.chr_plans.proofs.SeatedRows.{rows_leave}
use Rattle.chr_plans.proofs.actives.rows_leave.Goals as goal

pub returns : goal.returns
returns c = rows_leave
