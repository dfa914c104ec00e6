use Rattle.std.proofs.Common.{length}
use Rattle.chr_replica.proofs.leases.Leases.+insert_all.Given as goal

abbrev pub decreases-insert_all : goal.decreases-insert_all
decreases-insert_all l = length l.leases.now
