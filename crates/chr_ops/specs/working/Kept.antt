-- What an operation set keeps.
use Rattle.std.specs.Prelude.{◌≡◌, ℕ, ◌≤◌, List, Some}
use Rattle.std.specs.FinMap as map
use Rattle.chr_base.specs.Stores.{Store}
use Rattle.chr_ops.specs.declared.id.OpId.{OpId}
use Rattle.chr_ops.specs.declared.limits.TheConstants.{MAX_TOLD}
use Rattle.chr_ops.specs.declared.range.IdRange.{IdRange}
use Rattle.chr_ops.specs.Operations.{Operations, IsOperationBag, told_atoms}
use Rattle.chr_ops.specs.Summaries.{CoversJust, IsApart}

-- each bag of a set is one that an operation may have
abbrev pub AreOperationBags : Operations → Type 0
AreOperationBags m = (q : OpId) (s : Store) → map.get m q ≡ Some s → IsOperationBag s

-- the kept count is that of the told atoms and within the limit, and each bag is an operation's; each origin's ranges
-- are as long as possible and cover just the numbers of its bags
pub record IsKept (told : ℕ) (ranges : List IdRange) (m : Operations) : Type 0 where
  pub counted : told ≡ told_atoms m
  pub within : told ≤ MAX_TOLD
  pub sized : AreOperationBags m
  pub apart : IsApart ranges
  pub covering : CoversJust ranges m
