-- The constants of rules.
use Rattle.std.specs.Prelude.{◌≡◌, ℕ, ℤ, List, [], ◌∷◌, ◌++◌, Some, slice_get}
use Rattle.chr_base.specs.declared.term.Term.{Term}
use Rattle.chr_base.specs.declared.term.Term.TheVariants.{Constant}
use Rattle.chr_base.specs.declared.term.Comparison.{Comparison}
use Rattle.chr_base.specs.declared.rule.Rule.{Rule}
use Rattle.chr_base.specs.RuleTests.{terms_of}
use Rattle.chr_base.specs.Rules.{heads_of}
use Rattle.chr_types.specs.OrderTypes.{In, Rises}

abbrev pub guard_terms : List Comparison → List Term
guard_terms [] = []
guard_terms (c ∷ cs) = c.left ∷ c.right ∷ guard_terms cs

-- all terms of a rule: of the heads, the guard and the body
abbrev pub rule_terms : Rule → List Term
rule_terms r = terms_of (heads_of r) ++ guard_terms r.guard.items ++ terms_of r.body.items

abbrev pub HasConstant : Rule → ℤ → Type 0
HasConstant r c = In (Constant c) (rule_terms r)

-- the constant stands in one of the rules
abbrev pub IsConstantOf : List Rule → ℤ → Type 0
IsConstantOf rules c = (i : ℕ) × (r : Rule) × (slice_get rules i ≡ Some r) × HasConstant r c

-- cs are the constants of the rules, rising
pub record AreConstants (rules : List Rule) (cs : List ℤ) : Type 0 where
  pub rise : Rises cs
  pub stand : (c : ℤ) → In c cs → IsConstantOf rules c
  pub all : (c : ℤ) → IsConstantOf rules c → In c cs
