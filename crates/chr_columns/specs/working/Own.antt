-- Rules that a pool has.
use Rattle.std.specs.Prelude.{◌≡◌, ℕ, List, Some, slice_get}
use Rattle.chr_base.specs.declared.rule.Rule.{Rule}
use Rattle.chr_base.specs.Sameness.{parts_of}

-- one of the rules says the same as this one
abbrev pub IsOwn : List Rule → Rule → Type 0
IsOwn rules rule = (i : ℕ) × (r : Rule) × (slice_get rules i ≡ Some r) × (parts_of r ≡ parts_of rule)
