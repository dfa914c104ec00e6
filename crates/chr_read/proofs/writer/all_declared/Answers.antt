use Rattle.std.proofs.Common.{arith}
use Rattle.chr_base.specs.Programs.{declarations}
use Rattle.chr_read.proofs.Written.{declared_step}
use Rattle.chr_read.proofs.writer.all_declared.Goals as goal

pub loop-place-preserved : goal.loop-place-preserved
loop-place-preserved c =
    declared_step _ _ c.declaration.result c.loop-place.place (declarations c.args.program.now) c.loop-place.invariant
    c.in_ok-push.ensures.items c.declaration.ensures
    (omega (arith, c.loop-place-test.true, c.symbols-place-end.ensures))
