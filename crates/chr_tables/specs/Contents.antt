-- Tables as callers see them.
use Rattle.std.specs.Prelude.{◌≡◌, ℕ, ℤ, List, [], get_or, slice_get, Option, Some, None}
use Rattle.chr_base.specs.declared.atom.Atom.{Atom}
use Rattle.chr_plans.specs.declared.key.Band.{Band}
use Rattle.chr_plans.specs.declared.key.Span.{Span}
use Rattle.chr_plans.specs.Keys.{IsInBand}
use Rattle.chr_plans.specs.Rows.{Tables, Columns, Ranks}

-- the atom of each row, or None where the row is dead; of each index its columns, and the columns of its order
pub record Contents : Type 0 where
  pub rows : List (Option Atom)
  pub keys : List (List ℕ)
  pub orders : List (List ℕ)

-- what is read past the last table
abbrev pub no_table : Contents
no_table = record { rows = []; keys = []; orders = [] }

-- the atom of a row of a table, where it lives
abbrev pub rows_of : List Contents → Tables
rows_of tables table row = get_or (get_or tables table no_table).rows row None

-- the columns of an index of a table, where there is such an index
abbrev pub index_columns : List Contents → Columns
index_columns tables table index = slice_get (get_or tables table no_table).keys index

-- the ranks of rows: each index goes from the newest row down, so the rank of a row is its number
abbrev pub ranks_of : List Contents → Ranks
ranks_of tables table index row = row

-- the row lives, and this is its atom's argument in a column
abbrev pub HasArgument : ℕ → ℤ → Option Atom → Type 0
HasArgument column value row = (a : Atom) × (row ≡ Some a) × (slice_get a.args.items column ≡ Some value)

-- the atom is in the band, if the column of that number in the order is the band's
abbrev pub IsInBandBy : List ℕ → ℕ → Band → Atom → Type 0
IsInBandBy order j band a = slice_get order j ≡ Some band.column → IsInBand band a

-- the row lives, and is in those bands of the span that are of columns of the order
abbrev pub LiesBy : List ℕ → Span → Option Atom → Type 0
LiesBy order span row =
    (a : Atom) × (row ≡ Some a) × IsInBandBy order 0 span.first a × IsInBandBy order 1 span.second a
