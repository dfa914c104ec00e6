use Rattle.chr_ops.proofs.RangeLookups.{ranges_apart}
use Rattle.chr_ops.proofs.covered.Covered.cover.Goals as goal

pub returns-clause-apart : goal.returns-clause-apart
returns-clause-apart c = ranges_apart c.cover_new.new.ends c.cover_new.ensures.longest
