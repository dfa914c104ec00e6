-- From what a seat received to receipts that can be handed in.
use Rattle.std.specs.Prelude.{◌≡◌, List, [], ◌∷◌, ◌++◌}
use Rattle.std.specs.List.{Contains}
use Rattle.chr_acts.specs.declared.entry.Entry.{Entry}
use Rattle.chr_shared.specs.Openings.{SeatView}
use Rattle.chr_shared.specs.Seats.{IsReceiptOf}

-- what a seat received last is in its list
abbrev pub ReceivedAreListed : Type 0
ReceivedAreListed =
    (seat : SeatView) (before : List Entry) (receipt : Entry) → seat.list ≡ before ++ receipt ∷ []
    → Contains seat.list receipt

-- what is in a seat's list stays there, whatever the seat receives
abbrev pub ListedStay : Type 0
ListedStay =
    (old new : SeatView) (more : List Entry) (receipt : Entry) → new.list ≡ old.list ++ more
    → Contains old.list receipt → Contains new.list receipt

-- what is in the list of one of the seats is a receipt of these seats
abbrev pub ListedAreReceipts : Type 0
ListedAreReceipts =
    (seats : List SeatView) (seat : SeatView) (receipt : Entry) → Contains seats seat → Contains seat.list receipt
    → IsReceiptOf seats receipt
