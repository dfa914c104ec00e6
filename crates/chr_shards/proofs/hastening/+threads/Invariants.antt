use Rattle.std.specs.Prelude.{◌+◌, ◌*◌, length}
use Rattle.chr_shards.proofs.hastening.+threads.Given as goal

abbrev pub decreases-hasten_by_size : goal.decreases-hasten_by_size
decreases-hasten_by_size g l = 3 * length l.pools.now

abbrev pub decreases-hasten_both : goal.decreases-hasten_both
decreases-hasten_both g l = 3 * length l.others.now + 2

abbrev pub decreases-hasten_both-here : goal.decreases-hasten_both-here
decreases-hasten_both-here g l = 3 * length l.others.now + 1
