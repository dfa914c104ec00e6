-- Ranges and ids that are walked along together.
use Rattle.std.specs.Prelude.{Bool, ◌&&◌, ◌||◌, ◌==◌, nat_lt, List, [], ◌∷◌, if◌then◌else◌}
use Rattle.std.specs.List.{filter}
use Rattle.chr_ops.specs.declared.id.OpId.{OpId}
use Rattle.chr_ops.specs.declared.range.IdRange.{IdRange}
use Rattle.chr_ops.specs.Operations.{Operation}
use Rattle.chr_ops.specs.Summaries.{in_range, covers}

-- the first id of a range
abbrev pub first_id : IdRange → OpId
first_id r = record { origin = r.origin; number = r.lo }

-- the last id of a range
abbrev pub last_id : IdRange → OpId
last_id r = record { origin = r.origin; number = r.hi }

-- whether a range ends before an id
abbrev pub ends_before : IdRange → OpId → Bool
ends_before r id = nat_lt r.origin id.origin || (r.origin == id.origin && nat_lt r.hi id.number)

-- the ranges from the first that does not end before an id
abbrev pub rest_from : List IdRange → OpId → List IdRange
rest_from [] id = []
rest_from (r ∷ rs) id = if ends_before r id then rest_from rs id else r ∷ rs

-- the operations of a list whose ids a range has
abbrev pub within : IdRange → List Operation → List Operation
within r os = filter (λ o. in_range r o.0) os

-- the operations of a list whose ids ranges cover
abbrev pub covered : List IdRange → List Operation → List Operation
covered rs os = filter (λ o. covers rs o.0) os
