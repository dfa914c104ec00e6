-- Ranges of ids, and summaries: lists of ranges that cover ids.
use Rattle.std.specs.Prelude.{◌≡◌, ◌+◌, ◌<◌, ◌≤◌, Bool, not, ◌&&◌, ◌==◌, nat_le, List, [], ◌∷◌, ⊤}
use Rattle.std.specs.List.{list_any, filter, AllByRecursion}
use Rattle.std.specs.FinMap as map
use Rattle.chr_ops.specs.declared.id.OpId.{OpId}
use Rattle.chr_ops.specs.declared.range.IdRange.{IdRange}
use Rattle.chr_ops.specs.Operations.{Operation, Operations}

-- whether a range has an id
abbrev pub in_range : IdRange → OpId → Bool
in_range r id = r.origin == id.origin && nat_le r.lo id.number && nat_le id.number r.hi

-- whether one of the ranges has an id
abbrev pub covers : List IdRange → OpId → Bool
covers rs id = list_any (λ r. in_range r id) rs

-- the ids that the ranges cover are those that a set holds
abbrev pub CoversJust : List IdRange → Operations → Type 0
CoversJust rs m = (id : OpId) → covers rs id ≡ map.contains_key m id

-- a range ends before another begins, and does not touch it
abbrev pub IsBefore : IdRange → IdRange → Type 0
IsBefore r s = (r.origin ≤ s.origin) × (r.origin ≡ s.origin → r.hi + 1 < s.lo)

-- each range has an id, and comes before each later one: ranges as long as possible, in order
abbrev pub IsApart : List IdRange → Type 0
IsApart [] = ⊤
IsApart (r ∷ rs) = (r.lo ≤ r.hi) × AllByRecursion (IsBefore r) rs × IsApart rs

-- the operations of a set whose ids the ranges do not cover, in the order of ids
abbrev pub lacking : Operations → List IdRange → List Operation
lacking m rs = filter (λ o. not (covers rs o.0)) (map.entries m)

-- ranges that are apart and cover the same ids are one list
abbrev pub ApartIsOne : Type 0
ApartIsOne =
    (rs ss : List IdRange) → IsApart rs → IsApart ss → ((id : OpId) → covers rs id ≡ covers ss id) → rs ≡ ss

-- a set has one summary: two lists of ranges that are apart and cover just its ids are one
abbrev pub SummariesAreOne : Type 0
SummariesAreOne =
    (m : Operations) (rs ss : List IdRange) → IsApart rs → IsApart ss → CoversJust rs m → CoversJust ss m → rs ≡ ss

-- each set has a summary
abbrev pub SummariesExist : Type 0
SummariesExist = (m : Operations) → (rs : List IdRange) × IsApart rs × CoversJust rs m
