-- Rules that lower a weight.
use Rattle.std.specs.Prelude.{◌≡◌, ℕ, List, Some, slice_get}
use Rattle.chr_base.specs.declared.atom.Atom.{Atom}
use Rattle.chr_base.specs.declared.rule.Rule.{Rule}
use Rattle.chr_base.specs.Rules.{RuleLowers}

-- each of the rules lowers the weight
abbrev pub RulesLower : (Atom → ℕ) → List Rule → Type 0
RulesLower w rules = (i : ℕ) (r : Rule) → slice_get rules i ≡ Some r → RuleLowers w r
