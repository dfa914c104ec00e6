use Rattle.chr_columns.specs.working.Resting.{stored}
use Rattle.chr_columns.proofs.Pools.{nothing}
use Rattle.chr_columns.proofs.columns.Columns.seeded.Goals as goal

pub returns : goal.returns
returns c = nothing (stored c.in_ok-rested.rested) c.new.result.items c.in_ok-rested.ensures.empty c.new.ensures.items
