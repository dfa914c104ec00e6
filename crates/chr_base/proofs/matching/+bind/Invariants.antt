use Rattle.std.proofs.Common.{length}
use Rattle.chr_base.proofs.matching.+bind.Given as goal

abbrev pub decreases-bind : goal.decreases-bind
decreases-bind l = length l.patterns.now
