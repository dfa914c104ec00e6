use Rattle.chr_weighing.specs.Reweighing.{IsReweighed}
use Rattle.chr_weighing.proofs.reweighing.with_weights.Given as goal

abbrev pub invariant-loop-place : goal.invariant-loop-place
invariant-loop-place l = IsReweighed l.program l.other
