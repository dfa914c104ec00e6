use Rattle.std.proofs.Common.{length}
use Rattle.chr_plans.proofs.planning.+variable_source.Given as goal

abbrev pub decreases-variable_source : goal.decreases-variable_source
decreases-variable_source l = length l.known.now
