use Rattle.chr_columns.specs.working.Resting.{stored}
use Rattle.chr_columns.proofs.Owning.{own_rests, nothing_fresh}
use Rattle.chr_columns.proofs.own.find_in.Goals as goal

pub returns-then-is_own-clause-none : goal.returns-then-is_own-clause-none
returns-then-is_own-clause-none c =
    own_rests c.args.rested.now.rules.items c.args.rule.now (stored c.args.rested.now) c.args.fresh.now c.requires.rests
    (nothing_fresh c.is_empty.result c.args.fresh.now c.if-is_empty.true c.is_empty.ensures)
    (rw c.deref.ensures.value at c.if-is_own.ensures)
