use Rattle.std.proofs.Common.{ap, ◌∙◌, ◌++◌}
use Rattle.chr_base.specs.FinBag.{◌⊕◌}
use Rattle.chr_base.proofs.Sorting.{union_is}
use Rattle.chr_base.proofs.bag.Bag.union.Goals as goal

pub returns-clause-ok : goal.returns-clause-ok
returns-clause-ok c =
    union_is c.self.inside.items.items c.other.inside.items.items _ _
    (c.in_ok-push_copies.ensures.ok ∙ ap (λ ys. c.self.inside.items.items ++ ys) c.deref.ensures.value)
    c.put_in_order.ensures.same
    ∙ (λ i. c.self.view_is i ⊕ c.other.view_is i)
