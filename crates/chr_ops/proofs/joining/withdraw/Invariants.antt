use Rattle.std.proofs.Common.{drop}
use Rattle.chr_ops.specs.working.Joining.{IsWithout}
use Rattle.chr_ops.proofs.joining.withdraw.Given as goal

abbrev pub invariant-loop-place : goal.invariant-loop-place
invariant-loop-place l = IsWithout l.held (drop l.place l.ids) l.fn.held
