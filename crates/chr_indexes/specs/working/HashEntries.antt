-- What an index keeps of its rows: a hash and a flag each, in chains by slot.
use Rattle.std.specs.Prelude.{◌≡◌, ℕ, ◌-◌, ◌<◌, ◌^◌, ◌%◌, List, [], ◌∷◌, length, get_or, map, cond, Bool, true, false}
use Rattle.std.specs.Prelude.{Option, Some, None}
use Rattle.std.specs.Coded.{Coded, code_by, coded×, coded_ℕ, coded_list, coded_option}
use Rattle.std.proofs.Common.{refl}
use Rattle.chr_indexes.specs.declared.hashes.row.Row.{Row}
use Rattle.chr_indexes.specs.HashedRows.{Listed}
use Rattle.chr_indexes.specs.working.HashChains.{IsChained}

-- what each row has in a field of its own
abbrev pub hashes_of : List Row → List ℕ
hashes_of rows = map (λ (r : Row). r.hash) rows

abbrev pub flags_of : List Row → List Bool
flags_of rows = map (λ (r : Row). r.alive) rows

abbrev pub links_of : List Row → List ℕ
links_of rows = map (λ (r : Row). r.next) rows

-- for each row its hash, or None where the row is dead
abbrev pub live_hashes : List ℕ → List Bool → List (Option ℕ)
live_hashes [] bs = []
live_hashes (h ∷ hs) [] = []
live_hashes (h ∷ hs) (b ∷ bs) = cond b (Some h) None ∷ live_hashes hs bs

-- the slots of rows with these hashes, of n slots
abbrev pub slots_of : ℕ → List ℕ → List ℕ
slots_of n hashes = map (λ h. h % n) hashes

-- the slot of a row with this number
abbrev pub slot_of : List ℕ → List ℕ → ℕ → ℕ
slot_of heads hashes row = get_or (slots_of (length heads) hashes) row 0

-- the place, which is a row's number + 1, is 0 or that of a live row of the slot
abbrev pub IsLivePlace : List ℕ → List ℕ → List Bool → ℕ → ℕ → Type 0
IsLivePlace heads hashes alive slot place =
    0 < place → (slot_of heads hashes (place - 1) ≡ slot) × (get_or alive (place - 1) false ≡ true)

-- each live row of the slot below the bound lies below the place
abbrev pub LiesBelow : List ℕ → List ℕ → List Bool → ℕ → ℕ → ℕ → Type 0
LiesBelow heads hashes alive slot bound place =
    (r : ℕ) → r < bound → slot_of heads hashes r ≡ slot → get_or alive r false ≡ true → r < place

abbrev pub listed_code : Coded Listed
listed_code =
    code_by (List (Option ℕ) × ℕ) (coded× (coded_list (coded_option coded_ℕ)) coded_ℕ)
    (λ e. (e.rows, e.room)) (λ p. record { rows = p.0; room = p.1 }) (λ _. refl)

-- each row stands in the chain of its slot, of n slots
abbrev pub AreChained : ℕ → List Row → List ℕ → Type 0
AreChained n rows heads = IsChained (slots_of n (hashes_of rows)) (flags_of rows) (links_of rows) heads

-- what every index keeps
pub record IsIndex (rows : List Row) (heads : List ℕ) : Type 0 where
  pub chained : AreChained (length heads) rows heads
  pub some : 0 < length heads
  pub most : length heads < 2 ^ 32
