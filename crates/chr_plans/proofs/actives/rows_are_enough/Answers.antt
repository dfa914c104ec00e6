use Rattle.chr_plans.proofs.Around.{rows_are_enough}
use Rattle.chr_plans.proofs.actives.rows_are_enough.Goals as goal

pub returns : goal.returns
returns c = rows_are_enough
