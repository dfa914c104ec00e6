use Rattle.std.proofs.Common.{length}
use Rattle.chr_plans.proofs.planning.+push_limits.Given as goal

abbrev pub decreases-push_limits : goal.decreases-push_limits
decreases-push_limits l = length l.guard.now
