use Rattle.std.proofs.Common.{take}
use Rattle.std.specs.List.{list_any}
use Rattle.chr_ops.specs.working.Covering.{AreJoined, first_ids, is_beside}
use Rattle.chr_ops.proofs.covered.join_beside.Given as goal

abbrev pub invariant-loop-run : goal.invariant-loop-run
invariant-loop-run l = AreJoined l.fn.ends (λ q. list_any (is_beside q) (take l.run-index (first_ids l.runs))) l.ends
