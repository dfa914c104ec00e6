-- The bags of operations, entries in the order of ids, and what the iterator of entries lends.
use Rattle.std.specs.Prelude.{◌≡◌, ℕ, ◌<◌, Bool, List, Some, Option, length, slice_index_or}
use Rattle.std.specs.Borrow.{Bor}
use Rattle.std.specs.BTreeMap.{is_at}
use Rattle.std.specs.List.{AllByRecursion, remove}
use Rattle.std.specs.List.Sorted.{IsStrictlySortedBy}
use Rattle.std.specs.Map.{keys_of, lookup, remove_entry}
use Rattle.std.specs.Ordering.{is_lt, is_le}
use Rattle.std.specs.declared.cmp.Ordering.TheVariants.{Less}
use Rattle.chr_base.specs.Stores.{Store}
use Rattle.chr_ops.specs.declared.id.OpId.{OpId}
use Rattle.chr_ops.specs.declared.op.OpBag.{OpBag}
use Rattle.chr_ops.specs.Ids.{id_cmp}
use Rattle.chr_ops.specs.declared.op.OpBag.TheVariants as kind
use Rattle.chr_ops.specs.Operations.{Operation}

-- the bag of an operation, whether it is its own or shared
abbrev pub bag_of : OpBag → Store
bag_of (kind.Own b) = b
bag_of (kind.Shared b) = b

-- the operation of an id and a lent bag
abbrev pub operation_entry : OpId × Bor Store → Operation
operation_entry p = (p.0, p.1.now)

-- the ids of entries rise
abbrev pub Rise : List Operation → Type 0
Rise os = IsStrictlySortedBy id_cmp (keys_of os)

-- each entry of a list comes before an id
abbrev pub AllBefore : List Operation → OpId → Type 0
AllBefore os id = AllByRecursion (λ o. id_cmp o.0 id ≡ Less) os

-- the bag that is found under an id
abbrev pub bag_under : List Operation → OpId → Option Store
bag_under os id = lookup (is_at (id_cmp id)) os

-- whether the second id comes before the first; after it, whether it comes no later than the first
abbrev pub is_before : OpId → OpId → Bool
is_before id k = is_lt (id_cmp k id)

abbrev pub is_up_to : OpId → OpId → Bool
is_up_to id k = is_le (id_cmp k id)

-- the entry of an id stands at a place
pub record IsPlaceOf (os : List Operation) (id : OpId) (i : ℕ) : Type 0 where
  pub inside : i < length os
  pub found : (d : Operation) → bag_under os id ≡ Some (slice_index_or os i d).1
  pub removed : remove os i ≡ remove_entry (is_at (id_cmp id)) os
