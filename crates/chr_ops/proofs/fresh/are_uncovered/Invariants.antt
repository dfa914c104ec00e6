use Rattle.std.proofs.Common.{take}
use Rattle.chr_ops.specs.Operations.{Operations}
use Rattle.chr_ops.specs.Joins.{AreNew}
use Rattle.chr_ops.specs.Summaries.{CoversJust}
use Rattle.chr_ops.proofs.fresh.are_uncovered.Given as goal

abbrev pub invariant-loop-op : goal.invariant-loop-op
invariant-loop-op l = (m : Operations) → CoversJust l.covered m → AreNew m (take l.op-index l.ops)
