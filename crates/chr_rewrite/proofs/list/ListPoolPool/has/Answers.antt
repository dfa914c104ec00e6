use Rattle.chr_rewrite.proofs.Counting.{has_within}
use Rattle.chr_rewrite.proofs.list.ListPoolPool.has.Goals as goal

pub returns : goal.returns
returns c = rw (← c.self.view_is, ← c.deref.ensures.value) (has_within c.fits_in.result _ _ c.fits_in.ensures)
