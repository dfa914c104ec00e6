use Rattle.std.proofs.Common.{length}
use Rattle.chr_plans.proofs.constants.+may_have_all.Given as goal

abbrev pub decreases-may_have_all : goal.decreases-may_have_all
decreases-may_have_all l = length l.terms.now
