-- Rows of a pool.
use Rattle.std.specs.Prelude.{◌≡◌, ℕ, ◌<◌, List, length, get_or}
use Rattle.chr_columns.specs.declared.rows.Row.{Row}
use Rattle.chr_columns.specs.declared.rows.Row.TheVariants.{Fresh}

-- the row of the head at a place
abbrev pub row : List Row → ℕ → Row
row rows k = get_or rows k (Fresh 0)

-- no row stands there twice
abbrev pub AreApart : List Row → Type 0
AreApart rows = (q k : ℕ) → q < k → k < length rows → ¬ (row rows q ≡ row rows k)
