use Rattle.std.proofs.Common.{length}
use Rattle.chr_queries.proofs.wanted.+values_fit.Given as goal

abbrev pub decreases-values_fit : goal.decreases-values_fit
decreases-values_fit l = length l.places.now
