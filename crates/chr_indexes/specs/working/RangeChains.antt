-- Rows in chains, the newest first. A place is a row + 1, and 0 is none.
use Rattle.std.specs.Prelude.{◌≡◌, ℕ, pos, ◌-◌, ◌<◌, ◌≤◌, ◌%◌, List, length, get_or, true, false}
use Rattle.chr_indexes.specs.declared.ranges.range.Range.{Range}
use Rattle.chr_indexes.specs.declared.ranges.row.Row.{Row}
use Rattle.chr_indexes.specs.declared.ranges.row.Link.{Link}
use Rattle.chr_indexes.specs.RangedRows.{IsIn}
use Rattle.chr_indexes.specs.working.Bounds.{IsInBounds}

-- what is read past the last row
abbrev pub no_row : Row
no_row = record { value = pos 0; hash = 0; alive = false }

abbrev pub row_at : List Row → ℕ → Row
row_at rows r = get_or rows r no_row

-- what is read past the last link
abbrev pub no_link : Link
no_link = record { bounds = record { low = pos 0; high = pos 0 }; next = 0; jump = 0; rank = 0 }

abbrev pub link_at : List Link → ℕ → Link
link_at links r = get_or links r no_link

-- the slot of a row, of n slots
abbrev pub row_slot : ℕ → List Row → ℕ → ℕ
row_slot n rows r = (row_at rows r).hash % n

-- the row lives and is of the slot
abbrev pub LivesIn : ℕ → List Row → ℕ → ℕ → Type 0
LivesIn n rows slot r = (row_slot n rows r ≡ slot) × ((row_at rows r).alive ≡ true)

-- the place is 0 or that of a row of the slot, and each live row of the slot below the bound lies below the place
pub record IsNewest (n : ℕ) (rows : List Row) (bound slot place : ℕ) : Type 0 where
  pub within : place ≤ bound
  pub of_slot : 0 < place → row_slot n rows (place - 1) ≡ slot
  pub none_above : (q : ℕ) → q < bound → LivesIn n rows slot q → q < place

-- the link leads down the chain of the row, and has the bounds of the rows that a jump skips
pub record IsLink (n : ℕ) (rows : List Row) (r : ℕ) (l : Link) : Type 0 where
  pub next : IsNewest n rows r (row_slot n rows r) l.next
  pub jump : l.jump ≤ r
  pub jump_slot : 0 < l.jump → row_slot n rows (l.jump - 1) ≡ row_slot n rows r
  pub bounded : (q : ℕ) → q ≤ r → l.jump ≤ q → LivesIn n rows (row_slot n rows r) q
      → IsInBounds l.bounds (row_at rows q).value

-- the first k rows have their links
abbrev pub AreLinked : ℕ → List Row → List Link → ℕ → Type 0
AreLinked n rows links k = (r : ℕ) → r < k → IsLink n rows r (link_at links r)

-- each slot has its newest place among the first k rows
abbrev pub AreHeads : List Row → List ℕ → ℕ → Type 0
AreHeads rows heads k = (s : ℕ) → s < length heads → IsNewest (length heads) rows k s (get_or heads s 0)

-- the row lives, has this hash, and a value in the range
abbrev pub IsSought : List Row → ℕ → Range → ℕ → Type 0
IsSought rows hash range r =
    ((row_at rows r).alive ≡ true) × ((row_at rows r).hash ≡ hash) × IsIn range (row_at rows r).value

-- each live row of the slot of r that lies below the bound, and has a value in the range, lies below the place
abbrev pub Passes : ℕ → List Row → Range → ℕ → ℕ → ℕ → Type 0
Passes n rows range r bound place =
    (q : ℕ) → q < bound → LivesIn n rows (row_slot n rows r) q → IsIn range (row_at rows q).value → q < place
