use Rattle.std.proofs.Common.{length}
use Rattle.chr_base.proofs.rule.+same_patterns.Given as goal

abbrev pub decreases-same_patterns : goal.decreases-same_patterns
decreases-same_patterns l = length l.left.now
