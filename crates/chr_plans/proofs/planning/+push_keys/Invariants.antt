use Rattle.std.proofs.Common.{length}
use Rattle.chr_plans.proofs.planning.+push_keys.Given as goal

abbrev pub decreases-push_keys : goal.decreases-push_keys
decreases-push_keys l = length l.terms.now
