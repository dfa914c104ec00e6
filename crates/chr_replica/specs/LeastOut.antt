-- The least lease number that is out.
use Rattle.std.specs.Prelude.{◌≡◌, ℕ, ◌≤◌, Option, Some, None, IsSome}
use Rattle.std.specs.FinMap as map
use Rattle.chr_replica.specs.Leases.{Leases}

-- each number that is out is at least k
abbrev pub AreFrom : Leases → ℕ → Type 0
AreFrom out k = (q : ℕ) → IsSome (map.get out q) → k ≤ q

-- the number is the least that is out; where there is no number, none is out
abbrev pub IsLeastOut : Leases → Option ℕ → Type 0
IsLeastOut out (Some k) = IsSome (map.get out k) × AreFrom out k
IsLeastOut out None = out ≡ map.empty
