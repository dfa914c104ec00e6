-- Operations on their way into a set, and out of it again.
use Rattle.std.specs.Prelude.{◌≡◌, List, Bool, ◌||◌, None, if◌then◌else◌}
use Rattle.std.specs.List.{list_any}
use Rattle.std.specs.Ordering.{eq_by_cmp}
use Rattle.std.specs.BTreeSet as set
use Rattle.std.specs.BTreeSet.{BTreeSet}
use Rattle.std.specs.FinMap as map
use Rattle.chr_ops.specs.declared.id.OpId.{OpId}
use Rattle.chr_ops.specs.Ids.{id_cmp}
use Rattle.chr_ops.specs.Operations.{Operations}

-- one map is the other without what stands under these ids
abbrev pub IsWithout : {X : Type 0} → map.FinMap id_cmp X → List OpId → map.FinMap id_cmp X → Type 0
IsWithout m ids n =
    (q : OpId) → map.get m q ≡ (if list_any (eq_by_cmp id_cmp q) ids then None else map.get n q)

-- whether an id is of an operation of a set, or one of some ids
abbrev pub is_held_or_seen : Operations → BTreeSet OpId → OpId → Bool
is_held_or_seen m ids q = map.contains_key m q || set.contains id_cmp ids q

-- the ids of the one map are those of the other, and these
abbrev pub AddsIds : Operations → List OpId → Operations → Type 0
AddsIds m ids n = (q : OpId) → map.contains_key n q ≡ (map.contains_key m q || list_any (eq_by_cmp id_cmp q) ids)
