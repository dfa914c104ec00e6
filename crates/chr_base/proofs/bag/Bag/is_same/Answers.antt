use Rattle.chr_base.proofs.Sorting.{same_or_not}
use Rattle.chr_base.proofs.bag.Bag.is_same.Goals as goal

pub returns : goal.returns
returns c = rw (← c.self.view_is, ← c.other.view_is) (same_or_not _ _ _ _ _ c.deref.ensures.value
    c.deref-2.ensures.value c.self.invariant c.other.invariant c.same_atoms.ensures)
