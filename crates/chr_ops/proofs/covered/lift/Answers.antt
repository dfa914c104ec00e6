use Rattle.chr_ops.proofs.RunsCovered.{run_lifted}
use Rattle.chr_ops.proofs.covered.lift.Goals as goal

pub loop-run-preserved : goal.loop-run-preserved
loop-run-preserved c =
    rw c.remove.ensures
    (run_lifted c.args.runs.now c.loop-run.run-index record { origin = 0; lo = 0; hi = 0 } c.first.result
    c.first.ensures c.loop-run-test.true c.args.ends.now c.loop-run.ends c.loop-run.invariant)
