-- Openings of books, and seats, as callers see them.
use Rattle.std.specs.Prelude.{◌≡◌, ℕ, List, [], Option, None}
use Rattle.atomic_table.specs.Seated.{TableId}
use Rattle.chr_join.specs.declared.accepted.Accepted.{Accepted}
use Rattle.chr_acts.specs.declared.entry.Entry.{Entry}

-- an opening of a book
pub record OpeningView : Type 0 where
  -- the table that ties receipts to entries
  pub table : TableId
  -- the accepted program of the book's board
  pub accepted : Option Accepted
  -- the journal as it was before the opening
  pub journal : List Entry
  -- the number of seats
  pub seats : ℕ

-- a seat: its number and its receipts, in their order
pub record SeatView : Type 0 where
  pub number : ℕ
  pub list : List Entry

abbrev pub no_table : TableId
no_table = record { words = 0; slots = 0; views_name = 0; atom = 0; block = 0; offset = 0; slot_names = [] }

-- a name has to have a value: this one names no opening
abbrev pub no_opening : OpeningView
no_opening = record { table = no_table; accepted = None; journal = []; seats = 0 }

-- the table is that of the opening, and has one word
abbrev pub IsTableOf : OpeningView → TableId → Type 0
IsTableOf opening table = (table ≡ opening.table) × (opening.table.words ≡ 1)
