use Rattle.std.proofs.Common.{length}
use Rattle.chr_plans.proofs.planning.+equal_source.Given as goal

abbrev pub decreases-equal_source : goal.decreases-equal_source
decreases-equal_source l = length l.guard.now
