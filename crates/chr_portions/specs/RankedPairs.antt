-- Rows with a hash and two values each, and their ranks.
use Rattle.std.specs.Prelude.{◌≡◌, ℕ, List, get_or, Option}
use Rattle.chr_indexes.specs.RangedRows.{Pair}

-- The hash and both values of each row, or None where the row is dead; the rank of each row, of a dead one too; and for
-- how many rows there is room.
pub record RankedPairs : Type 0 where
  pub rows : List (Option Pair)
  pub ranks : List ℕ
  pub room : ℕ

-- the rank of a row; past the last row it is the row's number
abbrev pub rank_of : List ℕ → ℕ → ℕ
rank_of ranks row = get_or ranks row row

-- distinct rows have distinct ranks
abbrev pub AreDistinct : List ℕ → Type 0
AreDistinct ranks = (left right : ℕ) → rank_of ranks left ≡ rank_of ranks right → left ≡ right
