-- Rows with a hash and a value each.
use Rattle.std.specs.Prelude.{◌≡◌, ◌≤ℤ◌, ℕ, ℤ, List, get_or, Option, Some, None, ⊤}
use Rattle.chr_indexes.specs.declared.ranges.range.Range.{Range}

-- what a row is found by
pub record Entry : Type 0 where
  pub hash : ℕ
  pub value : ℤ

-- The hash and value of each row, or None where the row is dead, and for how many rows there is room.
pub record ListedEntries : Type 0 where
  pub rows : List (Option Entry)
  pub room : ℕ

-- the end of a range allows the value
abbrev pub IsAtLeast : Option ℤ → ℤ → Type 0
IsAtLeast None x = ⊤
IsAtLeast (Some least) x = least ≤ℤ x

abbrev pub IsAtMost : Option ℤ → ℤ → Type 0
IsAtMost None x = ⊤
IsAtMost (Some most) x = x ≤ℤ most

-- the exception of a range is another value
abbrev pub IsOther : Option ℤ → ℤ → Type 0
IsOther None x = ⊤
IsOther (Some except) x = ¬ (x ≡ except)

-- the value is in the range
abbrev pub IsIn : Range → ℤ → Type 0
IsIn range x = IsAtLeast range.least x × IsAtMost range.most x × IsOther range.except x

-- the row lives and has this hash
abbrev pub HasEntryHash : List (Option Entry) → ℕ → ℕ → Type 0
HasEntryHash rows hash row = (e : Entry) × (get_or rows row None ≡ Some e) × (e.hash ≡ hash)

-- the row lives, has this hash and a value in the range
abbrev pub IsWanted : List (Option Entry) → ℕ → Range → ℕ → Type 0
IsWanted rows hash range row =
    (e : Entry) × (get_or rows row None ≡ Some e) × (e.hash ≡ hash) × IsIn range e.value

-- what a row is found by, where it is found by two values
pub record Pair : Type 0 where
  pub hash : ℕ
  pub first : ℤ
  pub second : ℤ

-- The hash and both values of each row, or None where the row is dead, and for how many rows there is room.
pub record ListedPairs : Type 0 where
  pub rows : List (Option Pair)
  pub room : ℕ

-- the row lives, has this hash, and each of its values is in its range
abbrev pub IsCrossed : List (Option Pair) → ℕ → Range → Range → ℕ → Type 0
IsCrossed rows hash first second row =
    (p : Pair) × (get_or rows row None ≡ Some p) × (p.hash ≡ hash) × IsIn first p.first × IsIn second p.second
