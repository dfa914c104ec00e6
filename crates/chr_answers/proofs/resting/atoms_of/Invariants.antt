use Rattle.std.proofs.Common.{◌≡◌, take}
use Rattle.chr_base.specs.Stores.{store_of}
use Rattle.chr_ops.specs.Operations.{sum_of}
use Rattle.chr_answers.proofs.resting.atoms_of.Given as goal

abbrev pub invariant-loop-op : goal.invariant-loop-op
invariant-loop-op l = store_of l.atoms.items ≡ sum_of (take l.op-index l.ops)
