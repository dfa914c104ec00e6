use Rattle.std.proofs.Common.{arith}
use Rattle.chr_base.proofs.Steps.{step_found, rests}
use Rattle.chr_rewrite.proofs.list.ListPoolPool.step.Goals as goal

pub returns-in-Some-clause-step : goal.returns-in-Some-clause-step
returns-in-Some-clause-step c = step_found c.args.rules.now c.loop-rule.rule-index c.rule-item.result
    c.deref.result.now _ _ _ c.loop-rule-test.true c.rule-item.is c.loop-rule.invariant.same c.in_ok-fire.ensures.ok

pub returns-clause-step : goal.returns-clause-step
returns-clause-step c = (
  c.loop-rule.invariant.same,
  rests c.args.rules.now _ (λ k d h. c.loop-rule.invariant.none k d (omega arith)),
)
