use Rattle.std.proofs.Common.{length}
use Rattle.chr_plans.proofs.planning.+push_tests.Given as goal

abbrev pub decreases-push_tests : goal.decreases-push_tests
decreases-push_tests l = length l.guard.now
