use Rattle.std.proofs.Common.{length}
use Rattle.chr_columns.proofs.candidates.+first_with.Given as goal

abbrev pub decreases-first_with : goal.decreases-first_with
decreases-first_with l = length l.tables.now
