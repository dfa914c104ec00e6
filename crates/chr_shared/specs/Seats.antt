-- What a seat has got.
use Rattle.std.specs.Prelude.{◌≡◌, ℕ, ◌+◌, ◌<◌, List, [], ◌∷◌, ◌++◌, length, slice_index_or, All}
use Rattle.std.specs.List.{Contains}
use Rattle.chr_acts.specs.declared.act.Act.{Act}
use Rattle.chr_acts.specs.declared.entry.Entry.{Entry}
use Rattle.chr_acts.specs.Journals.{count_of}
use Rattle.chr_shared.specs.declared.tie.Known.{Known}
use Rattle.chr_shared.specs.Openings.{SeatView}
use Rattle.chr_shared.specs.Tie.{of_seat}

-- the list of the one view of a badge
abbrev pub mine_of : List Known → List Entry
mine_of [] = []
mine_of (v ∷ vs) = v.mine

-- the seats have the numbers from 1 on, and no receipts
abbrev pub AreNew : List SeatView → Type 0
AreNew seats =
    (k : ℕ) (d : SeatView) → k < length seats
    → ((slice_index_or seats k d).number ≡ k + 1) × ((slice_index_or seats k d).list ≡ [])

-- the seats have the numbers from 1 on
abbrev pub AreNumbered : List SeatView → Type 0
AreNumbered seats = (k : ℕ) (d : SeatView) → k < length seats → (slice_index_or seats k d).number ≡ k + 1

-- the seat's receipts are its entries in the log
abbrev pub HasOwn : List Entry → SeatView → Type 0
HasOwn log seat = seat.list ≡ of_seat seat.number log

abbrev pub HaveOwn : List Entry → List SeatView → Type 0
HaveOwn log seats = All (HasOwn log) seats

-- the receipt is in the list of one of the seats
abbrev pub IsReceiptOf : List SeatView → Entry → Type 0
IsReceiptOf seats receipt = (seat : SeatView) × Contains seats seat × Contains seat.list receipt

-- the seat got one receipt, and P holds of it
abbrev pub GetsOne : (Entry → Type 0) → SeatView → SeatView → Type 0
GetsOne P old new = (e : Entry) × (new.list ≡ old.list ++ e ∷ []) × P e

-- the seat got receipts, and P holds of them
abbrev pub GetsAll : (List Entry → Type 0) → SeatView → SeatView → Type 0
GetsAll P old new = (es : List Entry) × (new.list ≡ old.list ++ es) × P es

-- The seat got the receipt of the act that was asked, under the seat's next number. `journal` is that before the
-- opening.
pub record Receives (journal : List Entry) (asked : Act) (old : SeatView) (receipt : Entry)
    (new : SeatView) : Type 0 where
  pub list : new.list ≡ old.list ++ receipt ∷ []
  pub seat : receipt.seat ≡ old.number
  pub number : receipt.number ≡ count_of old.number journal + length old.list + 1
  pub act : receipt.act ≡ asked
