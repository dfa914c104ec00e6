-- A bound on the number of order types that needs no walk.
use Rattle.std.specs.Prelude.{ℕ, suc, zero, ◌+◌, ◌*◌}

-- the ways to choose n more values, each equal to one of the d that are there or between them
abbrev pub most_types : ℕ → ℕ → ℕ
most_types zero d = 1
most_types (suc n) d = d * most_types n d + suc d * most_types n (suc d)
