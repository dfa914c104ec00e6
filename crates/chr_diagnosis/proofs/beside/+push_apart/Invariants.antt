use Rattle.std.proofs.Common.{length}
use Rattle.chr_diagnosis.proofs.beside.+push_apart.Given as goal

abbrev pub decreases-push_apart : goal.decreases-push_apart
decreases-push_apart l = length l.left.now
