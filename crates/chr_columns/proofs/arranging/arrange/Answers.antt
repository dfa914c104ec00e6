use Rattle.chr_base.proofs.Sorting.{same_multiset}
use Rattle.chr_columns.proofs.arranging.arrange.Goals as goal

pub returns : goal.returns
returns c = same_multiset _ _ c.sort_by_cached_key.ensures.permutation
