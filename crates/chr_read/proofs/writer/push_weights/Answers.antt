use Rattle.chr_read.proofs.Written.{weights_step}
use Rattle.chr_read.proofs.writer.push_weights.Goals as goal

pub loop-declared-preserved : goal.loop-declared-preserved
loop-declared-preserved c =
    weights_step c.args.all.now c.loop-declared.declared-index _ _ _ _ c.loop-declared-test.true
    c.loop-declared.invariant c.in_ok-push_weight.ensures
