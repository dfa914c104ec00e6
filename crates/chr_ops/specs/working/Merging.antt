-- Ranges on their way into a summary, in the order of their beginnings.
use Rattle.std.specs.Prelude.{◌≡◌, ◌≤◌, ◌||◌, List}
use Rattle.std.specs.List.{AllByRecursion}
use Rattle.std.specs.declared.cmp.Ordering.{Ordering}
use Rattle.std.specs.Ordering.{nat_cmp, ordering_then}
use Rattle.chr_ops.specs.declared.id.OpId.{OpId}
use Rattle.chr_ops.specs.declared.range.IdRange.{IdRange}
use Rattle.chr_ops.specs.Summaries.{in_range, covers, IsApart}

-- a range begins no later than another
abbrev pub StartsBy : IdRange → IdRange → Type 0
StartsBy r s = (r.origin ≤ s.origin) × (r.origin ≡ s.origin → r.lo ≤ s.lo)

-- each range of a list begins no later than a range
abbrev pub AllStartBy : List IdRange → IdRange → Type 0
AllStartBy rs s = AllByRecursion (λ r. StartsBy r s) rs

-- what is left of ranges when the next one is merged with them: they cover the same with it, stay apart, and begin no
-- later than what comes after it
pub record IsMerged (old : List IdRange) (next : IdRange) (new : List IdRange) : Type 0 where
  pub apart : IsApart new
  pub covering : (id : OpId) → covers new id ≡ (covers old id || in_range next id)
  pub in_order : (later : IdRange) → StartsBy next later → AllStartBy old later → AllStartBy new later

-- ranges are ordered by origin, then by beginning, and then by end
abbrev pub range_cmp : IdRange → IdRange → Ordering
range_cmp r s =
    ordering_then (nat_cmp r.origin s.origin) (ordering_then (nat_cmp r.lo s.lo) (nat_cmp r.hi s.hi))
