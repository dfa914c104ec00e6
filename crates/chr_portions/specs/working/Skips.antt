-- Skips over blocks of eight places.
use Rattle.std.specs.Prelude.{◌≡◌, ℕ, pos, ◌+◌, ◌*◌, ◌<◌, ◌≤◌, List, get_or, true, false}
use Rattle.chr_portions.specs.declared.record.Record.{Record}
use Rattle.chr_portions.specs.declared.bounds.Bounds.{Bounds}
use Rattle.chr_portions.specs.declared.record.Hull.{Hull}
use Rattle.chr_portions.specs.declared.record.Sought.{Sought}
use Rattle.chr_portions.specs.declared.skips.Skip.{Skip}
use Rattle.chr_indexes.specs.RangedRows.{IsIn}
use Rattle.chr_portions.specs.working.Bounds.{IsInBounds}

abbrev pub no_record : Record
no_record = record { first = pos 0; second = pos 0; hash = 0; next = 0; row = 0; alive = false }

abbrev pub record_at : List Record → ℕ → Record
record_at records p = get_or records p no_record

-- the hash and values of a record lie in the hull
abbrev pub IsInHull : Hull → Record → Type 0
IsInHull h r = (h.low ≤ r.hash) × (r.hash ≤ h.high) × IsInBounds h.first r.first × IsInBounds h.second r.second

-- the record lives, has the hash, and its values lie in the ranges
abbrev pub IsSought : Sought → Record → Type 0
IsSought s r = (r.alive ≡ true) × (r.hash ≡ s.hash) × IsIn s.first r.first × IsIn s.second r.second

-- the live records from one place on below another lie in the hull
abbrev pub Covers : List Record → ℕ → ℕ → Hull → Type 0
Covers records from to h =
    (p : ℕ) → from ≤ p → p < to → (record_at records p).alive ≡ true → IsInHull h (record_at records p)

abbrev pub no_bounds : Bounds
no_bounds = record { low = pos 0; high = pos 0 }

abbrev pub no_hull : Hull
no_hull = record { low = 0; high = 0; first = no_bounds; second = no_bounds }

abbrev pub no_skip : Skip
no_skip = record { own = no_hull; all = no_hull; jump = 0; rank = 0 }

abbrev pub skip_at : List Skip → ℕ → Skip
skip_at skips b = get_or skips b no_skip

-- the skip has the hulls of its block, and of the blocks from its jump on up to it
pub record IsSkip (records : List Record) (b : ℕ) (s : Skip) : Type 0 where
  pub jump : s.jump ≤ b
  pub own : Covers records (8 * b) (8 * b + 8) s.own
  pub all : Covers records (8 * s.jump) (8 * b + 8) s.all

-- the first k blocks have their skips
abbrev pub AreSkips : List Record → List Skip → ℕ → Type 0
AreSkips records skips k = (b : ℕ) → b < k → IsSkip records b (skip_at skips b)
