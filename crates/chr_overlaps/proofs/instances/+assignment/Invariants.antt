use Rattle.std.proofs.Common.{length}
use Rattle.chr_overlaps.proofs.instances.+assignment.Given as goal

abbrev pub decreases-assignment : goal.decreases-assignment
decreases-assignment l = length l.classes.now
