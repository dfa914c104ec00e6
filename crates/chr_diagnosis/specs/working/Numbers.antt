-- Numbers of joint cases at the places of their overlaps.
use Rattle.std.specs.Prelude.{◌≡◌, ℕ, List, [], Option, Some, slice_get}
use Rattle.std.specs.List.{AllZip}
use Rattle.chr_base.specs.declared.rule.Rule.{Rule}
use Rattle.chr_overlaps.specs.declared.overlap.Overlap.{Overlap}
use Rattle.chr_join.specs.declared.coverage.Coverage.{Coverage}
use Rattle.chr_join.specs.declared.coverage.Coverage.TheVariants.{Joint, Sorted}
use Rattle.chr_join.specs.Numbers.{HasNumber}

-- each overlap's number of joint cases at its place; of sorted cases there is no number
abbrev pub AreNumbersBy : Coverage → List Rule → List Overlap → List (Option ℕ) → Type 0
AreNumbersBy Joint rules os ns = AllZip (HasNumber rules) os ns
AreNumbersBy Sorted rules os ns = ns ≡ []

-- a number that is there, or 0
abbrev pub or_zero : Option (Option ℕ) → ℕ
or_zero (Some (Some n)) = n
or_zero _ = 0

abbrev pub number_at : List (Option ℕ) → ℕ → ℕ
number_at ns place = or_zero (slice_get ns place)
