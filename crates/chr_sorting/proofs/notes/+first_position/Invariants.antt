use Rattle.std.proofs.Common.{length}
use Rattle.chr_sorting.proofs.notes.+first_position.Given as goal

abbrev pub decreases-first_position : goal.decreases-first_position
decreases-first_position l = length l.placed.now
