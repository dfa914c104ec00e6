use Rattle.std.proofs.Common.{◌≡◌, ◌++◌}
use Rattle.chr_node.proofs.reading.push_all.Given as goal

abbrev pub invariant-loop-op : goal.invariant-loop-op
invariant-loop-op l = l.ops.items ≡ l.fn.ops.items ++ l.yielded
