use Rattle.chr_weights.specs.WeighedPrograms.{rules_in}
use Rattle.chr_shards.specs.working.Placed.{ReachEach}
use Rattle.chr_shards.proofs.hastening.hasten_in_turn.Given as goal

abbrev pub invariant-loop-place : goal.invariant-loop-place
invariant-loop-place l = ReachEach (rules_in l.weighed) l.fn.pools l.pools
