use Rattle.chr_base.proofs.Firing.{by_guard}
use Rattle.chr_base.proofs.rule.Rule.fires_by.Goals as goal

pub returns-clause-fires : goal.returns-clause-fires
returns-clause-fires c = by_guard c.args.self.now c.args.heads.now _ _ c.if-not-bind.ensures.bound
    (rw c.as_slice.ensures.value at c.guard_holds.ensures)
