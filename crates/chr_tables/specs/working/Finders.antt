-- The rows that an index has.
use Rattle.std.specs.Prelude.{◌≡◌, ℕ, ℤ, pos, List, [], ◌∷◌, map, get_or, slice_get, Option, Some, None, option_map}
use Rattle.chr_plans.specs.declared.key.Band.{Band}
use Rattle.chr_plans.specs.declared.key.Span.{Span}
use Rattle.chr_indexes.specs.RangedRows.{Entry, Pair, IsIn}
use Rattle.chr_tables.specs.declared.finder.Finder.{Finder}
use Rattle.chr_tables.specs.declared.finder.Finder.TheVariants.{Chained, Ranged, Crossed}

-- what an index has of a row: the hash of its key, and its values in the columns of the order
pub record Found : Type 0 where
  pub hash : ℕ
  pub values : List ℤ

abbrev pub hashed : ℕ → Found
hashed h = record { hash = h; values = [] }

abbrev pub ranged : Entry → Found
ranged e = record { hash = e.hash; values = e.value ∷ [] }

abbrev pub crossed : Pair → Found
crossed p = record { hash = p.hash; values = p.first ∷ p.second ∷ [] }

-- the columns of the order, by whose values it leaves rows out
abbrev pub order_in : Finder → List ℕ
order_in (Chained index) = []
order_in (Ranged column index) = column ∷ []
order_in (Crossed first second index) = first ∷ second ∷ []

-- what it has of each row, or None where the row is dead
abbrev pub finder_rows : Finder → List (Option Found)
finder_rows (Chained index) = map (option_map hashed) index.rows
finder_rows (Ranged column index) = map (option_map ranged) index.rows
finder_rows (Crossed first second index) = map (option_map crossed) index.rows

-- how many rows there is room for
abbrev pub room_in : Finder → ℕ
room_in (Chained index) = index.room
room_in (Ranged column index) = index.room
room_in (Crossed first second index) = index.room

-- the value of that number is in the band's range, if the column of that number in the order is the band's
abbrev pub HasValueIn : List ℕ → ℕ → Band → List ℤ → Type 0
HasValueIn order j band values = slice_get order j ≡ Some band.column → IsIn band.range (get_or values j (pos 0))

-- the row lives, has this hash, and lies in those bands of the span whose columns are the order's
abbrev pub IsFinderRow : Finder → ℕ → Span → ℕ → Type 0
IsFinderRow f hash span row =
    (e : Found) × (get_or (finder_rows f) row None ≡ Some e) × (e.hash ≡ hash)
    × HasValueIn (order_in f) 0 span.first e.values × HasValueIn (order_in f) 1 span.second e.values
