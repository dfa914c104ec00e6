use Rattle.chr_rewrite.proofs.Deriving.{took_step}
use Rattle.chr_rewrite.proofs.plain.take_least.Goals as goal

pub returns-clause-taken : goal.returns-clause-taken
returns-clause-taken c = took_step c.args.rules.now c.in-Some.step c.args.bag.now c.fire.new.bag
    c.index-rules-step.result c.in-Some.ensures.least c.index-rules-step.is
    (rw c.deref.ensures.0 at c.in_ok-fire.ensures)
