use Rattle.std.proofs.Common.{◌≢◌, ℕ, ◌<◌, get_or}
use Rattle.chr_ops.specs.Operations.{Operation}
use Rattle.chr_node.proofs.reading.has_origin.Given as goal

abbrev pub invariant-loop-op : goal.invariant-loop-op
invariant-loop-op l = (k : ℕ) (d : Operation) → k < l.op-index → (get_or l.ops k d).0.origin ≢ l.origin
