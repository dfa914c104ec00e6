use Rattle.std.proofs.Common.{length}
use Rattle.chr_base.proofs.rule.+same_comparisons.Given as goal

abbrev pub decreases-same_comparisons : goal.decreases-same_comparisons
decreases-same_comparisons l = length l.left.now
