use Rattle.std.proofs.Common.{refl}
use Rattle.chr_base.specs.Rules.{Step}
use Rattle.chr_base.proofs.Rewriting.{Runs-append}
use Rattle.chr_rewrite.proofs.list.ListPoolPool.advance.Goals as goal

pub loop-steps-preserved : goal.loop-steps-preserved
loop-steps-preserved c =
    Runs-append (Step c.args.rules.now) c.loop-steps.steps 1 c.args.self.now c.loop-steps.self c.step.new.self
    c.loop-steps.invariant
    (c.step.new.self, rw c.in-Ok-true.field-0-test at c.in-Ok-true.ensures.step, refl)

pub returns-in-Ok-false-clause-rests : goal.returns-in-Ok-false-clause-rests
returns-in-Ok-false-clause-rests c _ =
    let none = rw c.in-Ok-false.field-0-test at c.in-Ok-false.ensures.step in
    rw none.0 none.1
