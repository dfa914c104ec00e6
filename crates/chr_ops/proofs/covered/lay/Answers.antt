use Rattle.std.proofs.Common.{ap, ◌∙◌}
use Rattle.std.specs.FinMap as map
use Rattle.chr_ops.specs.working.Covering.{first_ids}
use Rattle.chr_ops.proofs.RangesLaid.{same_but}
use Rattle.chr_ops.proofs.RunsCovered.{run_laid}
use Rattle.chr_ops.proofs.covered.lay.Goals as goal

pub returns-in_err-insert-clause-others : goal.returns-in_err-insert-clause-others
returns-in_err-insert-clause-others c = λ q far.
    let ids = first_ids c.args.runs.now in
    ap (λ m. map.get m q) c.in_err-insert.ensures.err
    ∙ same_but c.args.ends.now c.loop-run.ends ids c.loop-run.run-index c.loop-run.invariant q far

pub loop-run-preserved : goal.loop-run-preserved
loop-run-preserved c =
    rw c.in_ok-insert.ensures.ok
    (run_laid c.args.runs.now c.loop-run.run-index record { origin = 0; lo = 0; hi = 0 } c.first.result c.first.ensures
    c.loop-run-test.true c.args.ends.now c.loop-run.ends c.insert.ensures.fits c.loop-run.invariant)
