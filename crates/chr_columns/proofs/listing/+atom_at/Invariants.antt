use Rattle.std.proofs.Common.{length}
use Rattle.chr_columns.proofs.listing.+atom_at.Given as goal

abbrev pub decreases-atom_at : goal.decreases-atom_at
decreases-atom_at l = length l.tables.now
