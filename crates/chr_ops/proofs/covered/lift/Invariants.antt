use Rattle.std.proofs.Common.{take}
use Rattle.chr_ops.specs.working.Covering.{first_ids}
use Rattle.chr_ops.specs.working.Joining.{IsWithout}
use Rattle.chr_ops.proofs.covered.lift.Given as goal

abbrev pub invariant-loop-run : goal.invariant-loop-run
invariant-loop-run l = IsWithout l.ends (take l.run-index (first_ids l.runs)) l.fn.ends
