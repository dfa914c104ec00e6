use Rattle.std.proofs.Common.{length}
use Rattle.chr_overlaps.proofs.classes.Classes.+join_terms.Given as goal

abbrev pub decreases-join_terms : goal.decreases-join_terms
decreases-join_terms l = length l.left.now
