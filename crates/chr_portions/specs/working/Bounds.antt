-- Values within bounds.
use Rattle.std.specs.Prelude.{◌≤ℤ◌, ℤ}
use Rattle.chr_portions.specs.declared.bounds.Bounds.{Bounds}

abbrev pub IsInBounds : Bounds → ℤ → Type 0
IsInBounds b x = (b.low ≤ℤ x) × (x ≤ℤ b.high)
