use Rattle.std.proofs.Common.{ap, sym, refl, ◌∙◌, length, drop, ◌++◌}
use Rattle.chr_base.specs.FinBag.{◌⊕◌}
use Rattle.chr_base.specs.Stores.{store_of}
use Rattle.chr_base.proofs.Stores.{within_more}
use Rattle.chr_columns.specs.working.Resting.{stored}
use Rattle.chr_columns.proofs.Pools.{fired_out, inserted}
use Rattle.chr_columns.proofs.columns.Columns.fire_rows.Goals as goal

pub take_rows-requires-clause-there : goal.take_rows-requires-clause-there
take_rows-requires-clause-there c =
    let s = stored c.self.inside.rested in
    let xs = c.self.inside.fresh.items in
    let came = inserted s xs c.body_of.result.items c.push_copies.new.items.items
    (c.in_ok-push_copies.ensures.ok ∙ ap (λ ys. xs ++ ys) c.deref-2.ensures.0) in
    rw came (within_more (store_of c.args.rows.now.heads.items) (s ⊕ store_of xs) (store_of c.body_of.result.items)
    (rw c.self.view_is c.requires.there))

pub returns-clause-ok : goal.returns-clause-ok
returns-clause-ok c =
    let s = stored c.self.inside.rested in
    let xs = c.self.inside.fresh.items in
    let came = inserted s xs c.body_of.result.items c.push_copies.new.items.items
    (c.in_ok-push_copies.ensures.ok ∙ ap (λ ys. xs ++ ys) c.deref-2.ensures.0) in
    let r = c.args.rule.now in
    let heads = c.args.rows.now.heads.items in
    rw (← c.self.view_is) (fired_out r heads (drop (length r.kept.items) heads) c.body_of.result.items
    (s ⊕ store_of xs) (s ⊕ store_of c.push_copies.new.items.items) c.take_rows.new.self
    c.requires.instance (rw c.self.view_is c.requires.there) refl came
    (λ v e. c.body_of.ensures v (e ∙ sym c.deref.ensures.0)) c.take_rows.ensures)
