use Rattle.std.proofs.Common.{length}
use Rattle.chr_base.proofs.rule.+same_terms.Given as goal

abbrev pub decreases-same_terms : goal.decreases-same_terms
decreases-same_terms l = length l.left.now
