-- Ranges of ids that are kept under their first ids.
use Rattle.std.specs.Prelude.{◌≡◌, ℕ, ◌+◌, ◌^◌, ◌<◌, ◌≤◌, Bool, true, false, ◌||◌, List, [], ◌∷◌, Some, IsSome}
use Rattle.std.specs.Prelude.{map as each, if◌then◌else◌}
use Rattle.std.specs.Ordering.{eq_by_cmp}
use Rattle.std.specs.FinMap as map
use Rattle.chr_ops.specs.declared.id.OpId.{OpId}
use Rattle.chr_ops.specs.declared.range.IdRange.{IdRange}
use Rattle.chr_ops.specs.Ids.{id_cmp}
use Rattle.chr_ops.specs.News.{is_one_of}
use Rattle.chr_ops.specs.Summaries.{in_range, covers}
use Rattle.chr_ops.specs.working.Walks.{first_id}

-- the last number of each range under its first id
abbrev pub Ends : Type 0
Ends = map.FinMap id_cmp ℕ

-- the range of a first id and a last number
abbrev pub end_range : OpId × ℕ → IdRange
end_range e = record { origin = e.0.origin; lo = e.0.number; hi = e.1 }

-- the ranges, in order
abbrev pub end_ranges : Ends → List IdRange
end_ranges m = each end_range (map.entries m)

-- each range has an id, its numbers are 64-bit numbers, and no two ranges have an id in common
pub record AreDisjoint (m : Ends) : Type 0 where
  pub fits : (k : OpId) (h : ℕ) → map.get m k ≡ Some h → (k.number ≤ h) × (h < 2 ^ 64)
  pub apart : (k l : OpId) (h g : ℕ) → map.get m k ≡ Some h → map.get m l ≡ Some g → k.origin ≡ l.origin
      → k.number < l.number → h < l.number

-- a range ends right before an id
abbrev pub EndsRightBefore : Ends → OpId → OpId → Type 0
EndsRightBefore m q k = (h : ℕ) × (map.get m k ≡ Some h) × (k.origin ≡ q.origin) × (h + 1 ≡ q.number)

-- a range begins at an id, and another ends right before it
abbrev pub IsSeam : Ends → OpId → Type 0
IsSeam m q = (k : OpId) × EndsRightBefore m q k × IsSome (map.get m q)

-- the ranges are as long as possible
pub record AreAsLongAsPossible (m : Ends) : Type 0 where
  pub disjoint : AreDisjoint m
  pub closed : (q : OpId) → ¬ (IsSeam m q)

-- the first ids of ranges
abbrev pub first_ids : List IdRange → List OpId
first_ids rs = each first_id rs

-- each id of a list is put in as a range of its own, and has a 64-bit number
pub record IsLaid (m : Ends) (ids : List OpId) (n : Ends) : Type 0 where
  pub at : (q : OpId) → map.get n q ≡ (if is_one_of ids q then Some q.number else map.get m q)
  pub fits : (q : OpId) → is_one_of ids q ≡ true → q.number < 2 ^ 64

-- nothing differs but at the ids of a list
abbrev pub IsSameBut : Ends → List OpId → Ends → Type 0
IsSameBut m ids n = (q : OpId) → is_one_of ids q ≡ false → map.get n q ≡ map.get m q

-- the id after one
abbrev pub next_id : OpId → OpId
next_id id = record { origin = id.origin; number = id.number + 1 }

-- whether q is an id or the one after it: at these two a range that has the id alone may touch others
abbrev pub is_beside : OpId → OpId → Bool
is_beside q id = eq_by_cmp id_cmp q id || eq_by_cmp id_cmp q (next_id id)

-- some ranges are joined: they cover the same, and no seam is left where the test holds
pub record AreJoined (m : Ends) (test : OpId → Bool) (n : Ends) : Type 0 where
  pub disjoint : AreDisjoint n
  pub covering : (q : OpId) → covers (end_ranges n) q ≡ covers (end_ranges m) q
  pub seams : (q : OpId) → IsSeam n q → IsSeam m q × (test q ≡ false)

-- an id is put in: laid as a range of its own, and joined to the one that ends right before it
pub record IsPutIn (m : Ends) (id : OpId) (n : Ends) : Type 0 where
  pub laid : Ends
  pub is : IsLaid m (id ∷ []) laid
  pub joined : AreJoined laid (λ q. eq_by_cmp id_cmp q id) n

-- ranges that are as long as possible cover what others do, and of what those do not cover only ids of a run
pub record GainsWithin (m : Ends) (run : IdRange) (n : Ends) : Type 0 where
  pub longest : AreAsLongAsPossible n
  pub stays : (q : OpId) → covers (end_ranges m) q ≡ true → covers (end_ranges n) q ≡ true
  pub within : (q : OpId) → covers (end_ranges n) q ≡ true → (covers (end_ranges m) q || in_range run q) ≡ true
