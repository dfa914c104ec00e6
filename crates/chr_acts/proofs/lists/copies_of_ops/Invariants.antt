use Rattle.std.proofs.Common.{◌≡◌, take}
use Rattle.chr_acts.proofs.lists.copies_of_ops.Given as goal

abbrev pub invariant-loop-op : goal.invariant-loop-op
invariant-loop-op l = l.copies.items ≡ take l.op-index l.ops
