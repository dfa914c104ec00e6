-- What the law of plain computations says.
use Rattle.std.specs.Prelude.{◌≡◌, ℕ, List, Some, slice_get}
use Rattle.chr_base.specs.declared.atom.Atom.{Atom}
use Rattle.chr_base.specs.declared.rule.Rule.{Rule}
use Rattle.chr_base.specs.declared.derivation.Step.{Step as StepValue}
use Rattle.chr_base.specs.Stores.{Store}
use Rattle.chr_base.specs.Rules.{RuleLowers}
use Rattle.chr_rewrite.specs.Derivations.{IsPlainComputation}

-- where each rule lowers a weight, each store has a plain computation
abbrev pub PlainComputationsExist : Type 0
PlainComputationsExist =
    (rules : List Rule) (w : Atom → ℕ) → ((i : ℕ) (r : Rule) → slice_get rules i ≡ Some r → RuleLowers w r)
    → (s : Store) → (steps : List StepValue) × (t : Store) × IsPlainComputation rules steps s t
