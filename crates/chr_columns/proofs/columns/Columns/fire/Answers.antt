use Rattle.std.proofs.Common.{ap, ◌∙◌, ◌≡◌, drop, length, ◌++◌}
use Rattle.chr_base.specs.FinBag.{◌⊕◌}
use Rattle.chr_base.specs.Stores.{store_of}
use Rattle.chr_columns.specs.working.Resting.{stored}
use Rattle.chr_columns.proofs.Pools.{fired_in, inserted}
use Rattle.chr_columns.proofs.columns.Columns.fire.Goals as goal

pub returns-clause-ok : goal.returns-clause-ok
returns-clause-ok c =
    let s = stored c.self.inside.rested in
    let gone : c.split_at.result.1.now ≡ drop (length c.args.rule.now.kept.items) c.args.heads.now =
    c.split_at.ensures.back ∙ ap (λ n. drop n c.args.heads.now) c.len.ensures.value in
    let came = inserted s c.self.inside.fresh.items c.body_of.result.items c.push_copies.new.items.items
    (c.in_ok-push_copies.ensures.ok ∙ ap (λ xs. c.self.inside.fresh.items ++ xs) c.deref.ensures.0) in
    rw (← c.self.view_is) (fired_in c.args.rule.now c.args.heads.now c.split_at.result.1.now c.body_of.result.items
    (s ⊕ store_of c.self.inside.fresh.items) (s ⊕ store_of c.push_copies.new.items.items) _
    c.requires.instance (rw c.self.view_is c.requires.there) gone came c.remove_all.result c.body_of.ensures
    c.remove_all.ensures.there c.remove_all.ensures.taken)
