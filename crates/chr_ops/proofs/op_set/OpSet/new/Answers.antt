use Rattle.chr_ops.proofs.Keeping.{kept_empty}
use Rattle.chr_ops.proofs.op_set.OpSet.new.Goals as goal

pub invariant_of-result : goal.invariant_of-result
invariant_of-result c = rw (c.new.ensures, c.new-2.ensures) kept_empty
