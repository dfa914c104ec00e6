use Rattle.std.proofs.Common.{length}
use Rattle.chr_diagnosis.proofs.stores.+add_stores.Given as goal

abbrev pub decreases-add_stores : goal.decreases-add_stores
decreases-add_stores l = length l.steps.now
