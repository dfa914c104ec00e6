-- Summaries over JSON values: ranges of ids.
use Rattle.std.specs.Prelude.{ℕ, List, [], ◌∷◌, nat_le, if◌then◌else◌, Option, Some, None, option_and_then}
use Rattle.serde_json.specs.Data.{Data}
use Rattle.chr_base.specs.Traversals.{each}
use Rattle.chr_ops.specs.declared.range.IdRange.{IdRange}
use Rattle.chr_json.specs.Values.{elements, joined, natural_of, origin_of}

-- the ids of an origin from one number to another that is no less
abbrev pub range_between : ℕ → ℕ → ℕ → Option IdRange
range_between o lo hi = if nat_le lo hi then Some (record { origin = o; lo = lo; hi = hi }) else None

-- the range of an array of two numbers, the second no less than the first
abbrev pub range_from : ℕ → List Data → Option IdRange
range_from o [] = None
range_from o (l ∷ []) = None
range_from o (l ∷ h ∷ []) =
    option_and_then (λ lo. option_and_then (λ hi. range_between o lo hi) (natural_of h)) (natural_of l)
range_from o (l ∷ h ∷ d ∷ ds) = None

abbrev pub range_of : ℕ → Data → Option IdRange
range_of o d = option_and_then (range_from o) (elements d)

-- an array of ranges of an origin
abbrev pub ranges_of : ℕ → Data → Option (List IdRange)
ranges_of o d = option_and_then (each (range_of o)) (elements d)

-- an array of an origin and its ranges
abbrev pub origin_ranges_from : List Data → Option (List IdRange)
origin_ranges_from [] = None
origin_ranges_from (o ∷ []) = None
origin_ranges_from (o ∷ rs ∷ []) = option_and_then (λ origin. ranges_of origin rs) (origin_of o)
origin_ranges_from (o ∷ rs ∷ d ∷ ds) = None

abbrev pub origin_ranges_of : Data → Option (List IdRange)
origin_ranges_of d = option_and_then origin_ranges_from (elements d)

-- an array of arrays of an origin and its ranges: all their ranges, in the order in which they stand there
abbrev pub summary_of : Data → Option (List IdRange)
summary_of d = option_and_then (joined origin_ranges_of) (elements d)
