use Rattle.chr_base.specs.FinBag.{◌⊕◌}
use Rattle.chr_base.specs.Stores.{store_of}
use Rattle.chr_columns.specs.working.Resting.{stored}
use Rattle.chr_columns.proofs.Takings.{less_one}
use Rattle.chr_columns.proofs.rested.Rested.take_row.Goals as goal

pub returns-else-not-take_from-clause-left : goal.returns-else-not-take_from-clause-left
returns-else-not-take_from-clause-left c =
    less_one (stored c.args.self.now ⊕ store_of c.args.fresh.now.items)
    (stored c.take_from.new.self ⊕ store_of c.take_from.new.fresh.items) c.args.atom.now
    c.if-not-take_from.ensures.taken
