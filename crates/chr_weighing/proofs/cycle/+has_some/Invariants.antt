use Rattle.std.proofs.Common.{length}
use Rattle.chr_weighing.proofs.cycle.+has_some.Given as goal

abbrev pub decreases-has_some : goal.decreases-has_some
decreases-has_some l = length l.times.now
