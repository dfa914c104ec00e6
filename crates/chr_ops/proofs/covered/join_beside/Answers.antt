use Rattle.std.proofs.Common.{subst}
use Rattle.std.specs.List.{list_any}
use Rattle.chr_ops.specs.working.Covering.{AreJoined, is_beside}
use Rattle.chr_ops.proofs.RunsCovered.{firsts_all, run_joined}
use Rattle.chr_ops.proofs.covered.join_beside.Goals as goal

pub loop-run-preserved : goal.loop-run-preserved
loop-run-preserved c =
    run_joined c.args.runs.now c.loop-run.run-index record { origin = 0; lo = 0; hi = 0 } c.first.result
    c.first.ensures c.loop-run-test.true c.args.ends.now c.loop-run.ends c.join_around.new.ends c.loop-run.invariant
    c.join_around.ensures

pub returns : goal.returns
returns c =
    let all = firsts_all c.args.runs.now c.loop-run.run-index c.loop-run-test.false in
    subst (λ xs. AreJoined c.args.ends.now (λ q. list_any (is_beside q) xs) c.loop-run.ends) all c.loop-run.invariant
