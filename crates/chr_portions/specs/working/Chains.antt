-- Records in chains, the greatest place first. A chain's place is one more than the record's, and 0 is none.
use Rattle.std.specs.Prelude.{◌≡◌, ℕ, ◌-◌, ◌<◌, ◌≤◌, ◌%◌, List, length, get_or, true}
use Rattle.chr_portions.specs.declared.record.Record.{Record}
use Rattle.chr_portions.specs.working.Skips.{record_at}

abbrev pub slot_of : ℕ → List Record → ℕ → ℕ
slot_of n records p = (record_at records p).hash % n

-- a place of the slot, of which no live record below the bound lies at or above it
pub record IsNewest (n : ℕ) (records : List Record) (bound slot place : ℕ) : Type 0 where
  pub within : place ≤ bound
  pub of_slot : 0 < place → slot_of n records (place - 1) ≡ slot
  pub none_above : (q : ℕ) → q < bound → slot_of n records q ≡ slot → (record_at records q).alive ≡ true → q < place

-- the first k records lead on
abbrev pub AreNext : ℕ → List Record → ℕ → Type 0
AreNext n records k =
    (p : ℕ) → p < k → IsNewest n records p (slot_of n records p) (record_at records p).next

-- each slot has its greatest place among the first k
abbrev pub AreHeads : List Record → List ℕ → ℕ → Type 0
AreHeads records heads k = (s : ℕ) → s < length heads → IsNewest (length heads) records k s (get_or heads s 0)

-- the records are the same but for how they lead on
abbrev pub AreAlike : List Record → List Record → Type 0
AreAlike before after = (p : ℕ) → ((record_at after p).hash ≡ (record_at before p).hash)
    × ((record_at after p).alive ≡ (record_at before p).alive) × ((record_at after p).row ≡ (record_at before p).row)
    × ((record_at after p).first ≡ (record_at before p).first)
    × ((record_at after p).second ≡ (record_at before p).second)
