use Rattle.std.proofs.Common.{length}
use Rattle.chr_plans.proofs.planning.+column_of.Given as goal

abbrev pub decreases-column_of : goal.decreases-column_of
decreases-column_of l = length l.terms.now
