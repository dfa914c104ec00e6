use Rattle.std.proofs.Common.{◌≡◌, ◌++◌, drop, map}
use Rattle.chr_exchange.proofs.order.lent.Given as goal

abbrev pub invariant-loop-op : goal.invariant-loop-op
invariant-loop-op l = map (λ o. o.now) l.found.items ++ drop l.op-index l.ops ≡ l.ops
