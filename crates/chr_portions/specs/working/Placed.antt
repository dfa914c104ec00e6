-- Records by place, and the place of each row.
use Rattle.std.specs.Prelude.{◌≡◌, ℕ, ◌<◌, List, length, get_or}
use Rattle.chr_portions.specs.declared.record.Record.{Record}
use Rattle.chr_portions.specs.working.Skips.{record_at}

abbrev pub place_at : List ℕ → ℕ → ℕ
place_at places r = get_or places r 0

-- each row has a place, and each place a row
pub record IsPlaced (records : List Record) (places : List ℕ) : Type 0 where
  pub as_many : length places ≡ length records
  pub there : (r : ℕ) → r < length places → place_at places r < length records
  pub own : (r : ℕ) → r < length places → (record_at records (place_at places r)).row ≡ r
  pub rows : (p : ℕ) → p < length records → (record_at records p).row < length places
  pub back : (p : ℕ) → p < length records → place_at places (record_at records p).row ≡ p

-- the two have the same hash and values, and live both, or neither does
abbrev pub IsLike : Record → Record → Type 0
IsLike a b = (a.hash ≡ b.hash) × (a.alive ≡ b.alive) × (a.first ≡ b.first) × (a.second ≡ b.second)

-- each row has a record like that which it had
abbrev pub AreSame : List Record → List ℕ → List Record → List ℕ → Type 0
AreSame records places records' places' =
    (r : ℕ) → r < length places
    → IsLike (record_at records' (place_at places' r)) (record_at records (place_at places r))

-- each row has the record that it had
abbrev pub AreKept : List Record → List ℕ → List Record → List ℕ → Type 0
AreKept records places records' places' =
    (r : ℕ) → r < length places → record_at records' (place_at places' r) ≡ record_at records (place_at places r)

-- the first k records are the same
abbrev pub AgreeBelow : ℕ → List Record → List Record → Type 0
AgreeBelow k records records' = (p : ℕ) → p < k → record_at records' p ≡ record_at records p

-- the first k records have the hash and values that they had, and live if they did
abbrev pub AreLikeBelow : ℕ → List Record → List Record → Type 0
AreLikeBelow k records records' = (p : ℕ) → p < k → IsLike (record_at records' p) (record_at records p)
