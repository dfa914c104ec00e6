use Rattle.std.proofs.lemmas.Bool.{OnTrue_at, OnTrue_from}
use Rattle.chr_base.specs.Stores.{store_of}
use Rattle.chr_columns.specs.working.Resting.{stored}
use Rattle.chr_columns.proofs.Takings.{left_rest, left_fresh}
use Rattle.chr_columns.proofs.rested.Rested.take_from.Goals as goal

pub returns-in-AtRest-clause-taken : goal.returns-in-AtRest-clause-taken
returns-in-AtRest-clause-taken c =
    OnTrue_from _ _ (λ e. left_rest (stored c.args.self.now) (stored c.take_at_rest.new.self)
    (store_of c.args.fresh.now.items) c.args.atom.now (OnTrue_at e c.take_at_rest.ensures.taken))

pub returns-in-Fresh-clause-taken : goal.returns-in-Fresh-clause-taken
returns-in-Fresh-clause-taken c =
    OnTrue_from _ _ (λ e. left_fresh (stored c.args.self.now) (store_of c.args.fresh.now.items)
    (store_of c.take_fresh.new.fresh.items) c.args.atom.now (OnTrue_at e c.take_fresh.ensures.taken))
