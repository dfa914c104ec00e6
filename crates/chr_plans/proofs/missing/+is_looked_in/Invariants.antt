use Rattle.std.proofs.Common.{length}
use Rattle.chr_plans.proofs.missing.+is_looked_in.Given as goal

abbrev pub decreases-is_looked_in : goal.decreases-is_looked_in
decreases-is_looked_in l = length l.lookups.now
