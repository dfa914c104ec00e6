-- The rows of tables and of fresh atoms in which heads sit.
use Rattle.std.specs.Prelude.{◌≡◌, ℕ, suc, ◌-◌, ◌<◌, List, [], ◌∷◌, length, get_or, nat_lt, nat_eq, if◌then◌else◌}
use Rattle.std.specs.Prelude.{Option, Some, None}
use Rattle.chr_base.specs.declared.atom.Atom.{Atom}
use Rattle.chr_plans.specs.Seats.{head}
use Rattle.chr_tables.specs.Contents.{Contents, rows_of}
use Rattle.chr_columns.specs.declared.rows.Row.{Row}
use Rattle.chr_columns.specs.declared.rows.Row.TheVariants.{AtRest, Fresh}
use Rattle.chr_columns.specs.Rows.{row, AreApart}
use Rattle.chr_columns.specs.working.Listing.{rows_in_turn}

-- the row with a number, where those of the tables come one after another, and then the fresh ones; the first of the
-- tables has this number
abbrev pub row_from : List Contents → ℕ → ℕ → Row
row_from [] table n = Fresh n
row_from (t ∷ tables) table n =
    if nat_lt n (length t.rows) then AtRest (record { table = table; row = n })
    else row_from tables (suc table) (n - length t.rows)

-- the atom of a row, where it lives
abbrev pub atom_of : List Contents → List Atom → Row → Option Atom
atom_of tables fresh (AtRest s) = rows_of tables s.table s.row
atom_of tables fresh (Fresh n) = get_or (rows_in_turn [] fresh) n None

-- a row, after the last fresh atom has moved to another
abbrev pub after_move : ℕ → Row → Row → Row
after_move last to (AtRest s) = AtRest s
after_move last to (Fresh n) = if nat_eq n last then to else Fresh n

-- the heads sit there, each in a row of its own
pub record SitAmong (tables : List Contents) (fresh : List Atom) (heads : List Atom) (rows : List Row) : Type 0 where
  pub as_many : length rows ≡ length heads
  pub there : (q : ℕ) → q < length heads → atom_of tables fresh (row rows q) ≡ Some (head heads q)
  pub apart : AreApart rows
