-- All atoms as one table, in which partners of an active atom are looked for by no column.
use Rattle.std.specs.Prelude.{◌≡◌, ℕ, zero, suc, ◌+◌, ◌<◌, List, [], ◌∷◌, length, get_or, set}
use Rattle.std.specs.Prelude.{Option, Some, None, IsTrue, is_some}
use Rattle.chr_base.specs.declared.atom.Atom.{Atom}
use Rattle.chr_plans.specs.declared.key.Order.TheVariants.{Unordered}
use Rattle.chr_plans.specs.declared.plan.Lookup.{Lookup}
use Rattle.chr_plans.specs.Rows.{Tables, Columns, Ranks}
use Rattle.chr_tables.specs.Contents.{Contents}
use Rattle.chr_plans.specs.Grids.{rows_in}
use Rattle.chr_columns.specs.working.Listing.{rows_in_turn}

-- all rows, but for the one of the active atom
abbrev pub rows_but : List Contents → List Atom → ℕ → List (Option Atom)
rows_but tables fresh active = set (rows_in_turn tables fresh) active None

-- there is one table, with these rows
abbrev pub only_table : List (Option Atom) → Tables
only_table rows = rows_in (rows ∷ [])

-- the one table has only indexes by no columns
abbrev pub only_index : Columns
only_index zero index = Some []
only_index (suc table) index = None

-- the one table is gone through from its last row down: the rank of a row is its number
abbrev pub newest_first : Ranks
newest_first table index row = row

-- the row lives
abbrev pub Lives : List (Option Atom) → ℕ → Type 0
Lives rows n = IsTrue (is_some (get_or rows n None))

-- the look-up of a partner of which no argument is known
abbrev pub plain : ℕ → Lookup
plain place = record {
  partner = record {
    place = place;
    key = record { items = [] };
    tests = record { items = [] };
    limits = record { items = [] };
    order = Unordered;
  };
  table = 0;
  index = 0;
}

-- the look-ups of the partners at all n places but the first, in order
abbrev pub ArePlain : ℕ → List Lookup → Type 0
ArePlain n lookups =
    (length lookups + 1 ≡ n) × ((j : ℕ) → j < length lookups → get_or lookups j (plain 0) ≡ plain (j + 1))
