use Rattle.std.proofs.Common.{◌≡◌, length}
use Rattle.chr_ops.specs.working.Walks.{rest_from}
use Rattle.chr_ops.proofs.outside.skip_ended.Given as goal

abbrev pub invariant-loop-rest : goal.invariant-loop-rest
invariant-loop-rest l = rest_from l.rest l.id ≡ rest_from l.ranges l.id

abbrev pub decreases-loop-rest : goal.decreases-loop-rest
decreases-loop-rest l = length l.rest
