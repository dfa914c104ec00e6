use Rattle.std.proofs.Common.{length}
use Rattle.chr_plans.proofs.key.+narrowed_by.Given as goal

abbrev pub decreases-narrowed_by : goal.decreases-narrowed_by
decreases-narrowed_by l = length l.limits.now
