-- Rows of tables as a store.
use Rattle.std.specs.Prelude.{◌≡◌, ℕ, ◌<◌, List, [], ◌∷◌, length, get_or, set, Option, Some, None}
use Rattle.chr_base.specs.declared.atom.Atom.{Atom}
use Rattle.chr_base.specs.FinBag.{empty, ◌⊕◌}
use Rattle.chr_base.specs.Stores.{Store, store_of}
use Rattle.chr_plans.specs.declared.rows.Seat.{Seat}
use Rattle.chr_plans.specs.Rows.{Tables}
use Rattle.chr_plans.specs.Seats.{seat, head, atom_in}

-- for each table its rows, and for each row its atom, or None where it is dead
abbrev pub Grid : Type 0
Grid = List (List (Option Atom))

-- the atoms of the rows that live
abbrev pub live_atoms : List (Option Atom) → List Atom
live_atoms [] = []
live_atoms (None ∷ rows) = live_atoms rows
live_atoms (Some a ∷ rows) = a ∷ live_atoms rows

-- the atoms of all tables
abbrev pub contents : Grid → Store
contents [] = empty
contents (rows ∷ tables) = store_of (live_atoms rows) ⊕ contents tables

-- the atom of a row of a table, where it lives
abbrev pub rows_in : Grid → Tables
rows_in tables table row = get_or (get_or tables table []) row None

-- the tables in which the row of this seat is dead
abbrev pub without_row : Grid → Seat → Grid
without_row tables s = set tables s.table (set (get_or tables s.table []) s.row None)

-- the tables in which all these rows are dead
abbrev pub without_rows : Grid → List Seat → Grid
without_rows tables [] = tables
without_rows tables (s ∷ seats) = without_rows (without_row tables s) seats

-- the atoms sit there, each in a row of its own
pub record SitIn (tables : Grid) (atoms : List Atom) (seats : List Seat) : Type 0 where
  pub as_many : length seats ≡ length atoms
  pub there : (q : ℕ) → q < length atoms → atom_in (rows_in tables) (seat seats q) ≡ Some (head atoms q)
  pub apart : (q k : ℕ) → q < k → k < length atoms → ¬ (seat seats q ≡ seat seats k)
