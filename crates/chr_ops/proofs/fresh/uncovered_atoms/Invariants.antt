use Rattle.std.proofs.Common.{◌≡◌, take}
use Rattle.chr_base.specs.Stores.{store_of}
use Rattle.chr_ops.specs.Operations.{Operations, sum_of}
use Rattle.chr_ops.specs.Joins.{fresh}
use Rattle.chr_ops.specs.Summaries.{CoversJust}
use Rattle.chr_ops.proofs.fresh.uncovered_atoms.Given as goal

abbrev pub invariant-loop-op : goal.invariant-loop-op
invariant-loop-op l =
    (m : Operations) → CoversJust l.covered m → store_of l.atoms.items ≡ sum_of (fresh m (take l.op-index l.ops))
