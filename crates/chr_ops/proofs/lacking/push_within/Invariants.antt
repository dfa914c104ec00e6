use Rattle.std.proofs.Common.{◌≡◌, ◌++◌}
use Rattle.std.specs.FinMap as map
use Rattle.std.specs.List.{AllByRecursion}
use Rattle.chr_ops.specs.Operations.{IsOperationBag}
use Rattle.chr_ops.specs.working.Walks.{within}
use Rattle.chr_ops.proofs.lacking.push_within.Given as goal

abbrev pub invariant-loop-id : goal.invariant-loop-id
invariant-loop-id l = record {
  found : l.ops.items ++ l.id-iterator ≡ l.fn.ops.items ++ within l.range (map.entries l.held);
  sized : AllByRecursion (λ o. IsOperationBag o.1) l.id-iterator;
}
