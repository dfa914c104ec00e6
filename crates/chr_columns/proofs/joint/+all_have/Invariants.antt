use Rattle.std.proofs.Common.{length}
use Rattle.chr_columns.proofs.joint.+all_have.Given as goal

abbrev pub decreases-all_have : goal.decreases-all_have
decreases-all_have l = length l.patterns.now
