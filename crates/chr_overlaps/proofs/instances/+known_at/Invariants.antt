use Rattle.std.proofs.Common.{length}
use Rattle.chr_overlaps.proofs.instances.+known_at.Given as goal

abbrev pub decreases-known_at : goal.decreases-known_at
decreases-known_at l = length l.classes.now
