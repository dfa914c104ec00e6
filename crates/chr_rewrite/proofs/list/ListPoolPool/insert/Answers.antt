use Rattle.std.proofs.Common.{ap, ◌∙◌, ◌++◌}
use Rattle.chr_base.specs.Stores.{store_of}
use Rattle.chr_base.proofs.Stores.{store_of-append}
use Rattle.chr_rewrite.proofs.list.ListPoolPool.insert.Goals as goal

pub returns-clause-ok : goal.returns-clause-ok
returns-clause-ok c = rw (← c.self.view_is) (ap store_of
    (c.push_all.ensures.items ∙ ap (λ xs. xs ++ c.args.atoms.now) c.reserve.ensures.items)
    ∙ store_of-append c.self.inside.items.items c.args.atoms.now)
