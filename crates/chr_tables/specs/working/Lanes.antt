-- Lanes of a block of rows.
use Rattle.std.specs.Prelude.{◌≡◌, ℕ, ℤ, pos, ◌<◌, ◌≤◌, false, List, get_or, FitsSigned}
use Rattle.std.specs.Ordering.{int_cmp}
use mir.Syntax.{w64}
use Rattle.chr_base.specs.declared.term.Cmp.{Cmp}
use Rattle.chr_base.specs.Rules.{compares}
use Rattle.chr_tables.specs.declared.lanes.test.Test.{Test}
use Rattle.chr_tables.specs.LaneRows.{holds}

-- the comparison fails at a lane, where both lists have a 64-bit value there
abbrev pub FailsAt : List ℤ → Cmp → List ℤ → ℕ → Type 0
FailsAt left cmp right lane =
    FitsSigned w64 (get_or left lane (pos 0)) → FitsSigned w64 (get_or right lane (pos 0))
    → compares cmp (int_cmp (get_or left lane (pos 0)) (get_or right lane (pos 0))) ≡ false

-- the comparison with one value fails at a lane, where the list has a 64-bit value there
abbrev pub FailsAgainst : List ℤ → Cmp → ℤ → ℕ → Type 0
FailsAgainst left cmp value lane =
    FitsSigned w64 (get_or left lane (pos 0)) → compares cmp (int_cmp (get_or left lane (pos 0)) value) ≡ false

-- the test fails at each row from the one place up to the other
abbrev pub FailsFrom : List (List ℤ) → Test → ℕ → ℕ → Type 0
FailsFrom columns test from to = (row : ℕ) → from ≤ row → row < to → holds columns row test ≡ false
