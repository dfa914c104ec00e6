use Rattle.std.proofs.Common.{◌∙◌}
use Rattle.chr_base.specs.FinBag.{◌⊕◌}
use Rattle.chr_base.specs.Stores.{store_of}
use Rattle.chr_columns.specs.working.Resting.{stored}
use Rattle.chr_columns.proofs.Removals.{less_at_rest, less_fresh}
use Rattle.chr_columns.proofs.rested.Rested.take_one.Goals as goal

pub returns-then-not-remove_one-clause-left : goal.returns-then-not-remove_one-clause-left
returns-then-not-remove_one-clause-left c =
    (λ i. stored (c.if-not-remove_one.ensures.same i) ⊕ store_of (c.take_out.ensures i))
    ∙ less_fresh (stored c.args.self.now) c.args.fresh.now.items c.args.atom.now c.if-not-remove_one.ensures.none

pub returns-else-not-remove_one-clause-left : goal.returns-else-not-remove_one-clause-left
returns-else-not-remove_one-clause-left c =
    less_at_rest (stored c.args.self.now) (stored c.remove_one.new.self)
    (store_of c.args.fresh.now.items) c.args.atom.now c.if-not-remove_one.ensures.taken
