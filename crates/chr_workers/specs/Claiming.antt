-- The word from which numbers are claimed, and the lists of the seats.
use Rattle.std.specs.Prelude.{◌≡◌, ℕ, ◌+◌, ◌-◌, ◌<◌, ◌≤◌, ◌^◌, ◌==◌, List, [], ◌∷◌, ◌++◌, if◌then◌else◌}
use Rattle.std.specs.Prelude.{nat_lt, sum_by, count_by}
use mathlib.Core.Option.{some}
use lib.ListN.{get_elem?}
use Rattle.atomic_table.specs.Table.{State, Me, Step}
use Rattle.chr_workers.specs.declared.claims.law.Hand.{Hand}
use Rattle.chr_workers.specs.declared.claims.law.Size.{Size}

abbrev pub hand : ℕ → ℕ → ℕ → List ℕ → Hand
hand limit shares over drawn = record { limit = limit; shares = shares; over = over; drawn = drawn }

abbrev pub first_hand : Size → Hand
first_hand size = hand size.parts size.seats 0 []

abbrev pub dealt : Hand → Hand
dealt v = hand v.limit (v.shares - 1) v.over v.drawn

abbrev pub newcomer : Hand → Hand
newcomer v = hand v.limit 1 0 []

abbrev pub gathered : Hand → Hand → Hand
gathered v w = hand v.limit (v.shares + w.shares) (v.over + w.over) (v.drawn ++ w.drawn)

abbrev pub nobody : Hand
nobody = hand 0 0 0 []

-- how often the number x stands in a list
abbrev pub times : ℕ → List ℕ → ℕ
times x numbers = count_by (λ y. y == x) numbers

-- 1 below n, and else 0
abbrev pub once_below : ℕ → ℕ → ℕ
once_below x n = if nat_lt x n then 1 else 0

-- the hand after it drew the number n
abbrev pub drawing : Hand → ℕ → Hand
drawing v n = hand v.limit v.shares (if nat_lt n v.limit then v.over else v.over + 1) (v.drawn ++ n ∷ [])

abbrev pub Draws : Step ℕ → Me ℕ Hand → ℕ → Me ℕ Hand → Type 0
Draws step before found after = after ≡ (drawing before.0 found, before.1)

-- what the rule says of one hand, by the word's number
pub record IsFair (size : Size) (word : ℕ) (v : Hand) : Type 0 where
  pub limit : 0 < v.shares → v.limit ≡ size.parts
  pub over : v.over ≤ v.shares
  pub past : 0 < v.over → size.parts < word
  pub idle : v.shares ≡ 0 → v.drawn ≡ []

-- every number below the word stands in exactly one list, once, and the word stays in range
pub record IsKept (size : Size) (state : State ℕ Hand) : Type 0 where
  pub word : ℕ
  pub words : state.words ≡ word ∷ []
  pub room : size.parts + size.seats + 1 < 2 ^ 64
  pub shares : sum_by (λ v. v.shares) state.views ≡ size.seats
  pub once : (x : ℕ) → sum_by (λ v. times x v.drawn) state.views ≡ once_below x word
  pub bound : word ≤ size.parts + sum_by (λ v. v.over) state.views
  pub each : (k : ℕ) (v : Hand) → get_elem? state.views k ≡ some v → IsFair size word v
