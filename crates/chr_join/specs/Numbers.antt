-- The numbers of joint cases of overlaps.
use Rattle.std.specs.Prelude.{◌≡◌, ℕ, List, length, Option, Some, None}
use Rattle.chr_base.specs.declared.rule.Rule.{Rule}
use Rattle.chr_overlaps.specs.declared.overlap.Overlap.{Overlap}
use Rattle.chr_overlaps.specs.declared.cases.Case.{Case}
use Rattle.chr_overlaps.specs.CaseLists.{AreCases, IsTooMany}

-- the overlap has this number of joint cases; where there is none, it has too many order types
abbrev pub HasNumber : List Rule → Overlap → Option ℕ → Type 0
HasNumber rules o (Some n) = (cs : List Case) × AreCases rules o cs × (n ≡ length cs)
HasNumber rules o None = (n : ℕ) × IsTooMany rules o n
