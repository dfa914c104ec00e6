-- Rows with a hash each.
use Rattle.std.specs.Prelude.{◌≡◌, ℕ, List, get_or, Option, Some, None}

-- The hash of each row, or None where the row is dead, and for how many rows there is room.
pub record Listed : Type 0 where
  pub rows : List (Option ℕ)
  pub room : ℕ

-- the row lives and has this hash
abbrev pub HasHash : List (Option ℕ) → ℕ → ℕ → Type 0
HasHash rows hash row = get_or rows row None ≡ Some hash
