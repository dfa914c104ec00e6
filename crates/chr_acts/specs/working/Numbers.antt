-- The last numbers of seats.
use Rattle.std.specs.Prelude.{◌≡◌, ℕ, List, IsSome}
use Rattle.std.specs.Ordering.{nat_cmp}
use Rattle.std.specs.BTreeMap.{get}
use Rattle.std.specs.Option.{unwrap_or}
use Rattle.chr_acts.specs.declared.entry.Entry.{Entry}
use Rattle.chr_acts.specs.declared.numbers.Numbers.{Numbers}
use Rattle.chr_acts.specs.Journals.{count_of}

-- the last number of a seat, or 0
abbrev pub last_in : Numbers → ℕ → ℕ
last_in numbers seat = unwrap_or (get nat_cmp numbers.last seat) 0

-- there is room for a number of the seat
abbrev pub HasRoom : Numbers → ℕ → Type 0
HasRoom numbers seat = IsSome (get nat_cmp numbers.last seat)

-- the numbers are the last ones of the seats in these entries
abbrev pub AreLast : Numbers → List Entry → Type 0
AreLast numbers entries = (seat : ℕ) → last_in numbers seat ≡ count_of seat entries
