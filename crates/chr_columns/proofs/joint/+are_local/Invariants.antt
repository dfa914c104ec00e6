use Rattle.std.proofs.Common.{length}
use Rattle.chr_columns.proofs.joint.+are_local.Given as goal

abbrev pub decreases-are_local : goal.decreases-are_local
decreases-are_local l = length l.rules.now
