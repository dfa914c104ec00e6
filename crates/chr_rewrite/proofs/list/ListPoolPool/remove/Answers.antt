use Rattle.chr_rewrite.proofs.Counting.{taken_there, on_true, on_false, store_less, same_counts}
use Rattle.chr_rewrite.proofs.list.ListPoolPool.remove.Goals as goal

pub returns-clause-there : goal.returns-clause-there
returns-clause-there c = rw (← c.self.view_is) (taken_there c.take_all.result _ _ _ c.take_all.ensures.taken
    c.take_all.ensures.seldom)

pub returns-clause-taken : goal.returns-clause-taken
returns-clause-taken c = rw (← c.self.view_is) (on_true c.take_all.result _ _ c.take_all.ensures.taken
    (λ h. store_less _ _ _ h))

pub returns-clause-kept : goal.returns-clause-kept
returns-clause-kept c = rw (← c.self.view_is) (on_false c.take_all.result _ _ c.take_all.ensures.same
    (λ h. same_counts _ _ h))
