use Rattle.std.proofs.Common.{take}
use Rattle.chr_ops.specs.working.Covering.{IsLaid, first_ids}
use Rattle.chr_ops.proofs.covered.lay.Given as goal

abbrev pub invariant-loop-run : goal.invariant-loop-run
invariant-loop-run l = IsLaid l.fn.ends (take l.run-index (first_ids l.runs)) l.ends
