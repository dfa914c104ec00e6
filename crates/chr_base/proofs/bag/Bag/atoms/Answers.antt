use Rattle.std.proofs.Common.{sym, ap, ◌∙◌}
use Rattle.chr_base.specs.FinBag as bag
use Rattle.chr_base.proofs.Sorting.{items_in_order}
use Rattle.chr_base.proofs.bag.Bag.atoms.Goals as goal

pub returns : goal.returns
returns c = c.deref.ensures.value ∙ sym (items_in_order _ c.self.invariant) ∙ ap bag.items c.self.view_is
