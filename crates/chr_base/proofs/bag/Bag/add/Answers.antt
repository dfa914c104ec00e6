use Rattle.chr_base.proofs.Edits.{rises_put, bag_put}
use Rattle.chr_base.proofs.bag.Bag.add.Goals as goal

pub invariant_of-self-2 : goal.invariant_of-self-2
invariant_of-self-2 c = rw (c.in_ok-insert.ensures.items, ← c.deref.ensures.value)
    (rises_put c.deref.result.now _ c.args.atom c.place_of-place.ensures.place
    (rw c.deref.ensures.value c.self.invariant))

pub returns-clause-ok : goal.returns-clause-ok
returns-clause-ok c = rw (c.in_ok-insert.ensures.items, ← c.self.view_is, ← c.deref.ensures.value)
    (bag_put _ _ _ c.place_of-place.ensures.place)
