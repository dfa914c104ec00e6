use Rattle.chr_columns.specs.working.Resting.{stored}
use Rattle.chr_columns.proofs.Pools.{all_fresh}
use Rattle.chr_columns.proofs.stepping.start_over.Goals as goal

pub returns-clause-same : goal.returns-clause-same
returns-clause-same c =
    all_fresh (stored c.in_ok-empty.empty) c.args.rested.now.tables.tables.items c.args.fresh.now.items
    c.push_live.new.atoms.items c.in_ok-empty.ensures.empty
    (rw c.deref.ensures.value at c.in_ok-push_live.ensures.ok)
