use Rattle.chr_columns.specs.working.Resting.{stored}
use Rattle.chr_columns.proofs.Pools.{inserted_ok}
use Rattle.chr_columns.proofs.columns.Columns.insert.Goals as goal

pub returns-clause-ok : goal.returns-clause-ok
returns-clause-ok c =
    rw (← c.self.view_is) (inserted_ok c.push_copies.result (stored c.self.inside.rested) c.self.inside.fresh.items
    c.args.atoms.now c.push_copies.new.items.items c.push_copies.ensures.ok)
