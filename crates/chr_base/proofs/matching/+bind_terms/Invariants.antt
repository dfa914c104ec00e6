use Rattle.std.proofs.Common.{length}
use Rattle.chr_base.proofs.matching.+bind_terms.Given as goal

abbrev pub decreases-bind_terms : goal.decreases-bind_terms
decreases-bind_terms l = length l.terms.now
