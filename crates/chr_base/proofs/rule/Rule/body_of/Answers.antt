use Rattle.std.proofs.Common.{arith}
use Rattle.chr_base.proofs.Firing.{body_whole}
use Rattle.chr_base.proofs.rule.Rule.body_of.Goals as goal

pub returns-after-loop-pattern : goal.returns-after-loop-pattern
returns-after-loop-pattern c = body_whole c.args.self.now c.args.heads.now _ _ _ _ c.if-bind.ensures.bound
    c.loop-pattern.invariant c.as_slice-pattern-items.ensures.value (omega arith)
