-- Constants gathered from terms.
use Rattle.std.specs.Prelude.{ℤ, List, ◌++◌}
use Rattle.std.specs.List.{flat_map}
use Rattle.chr_base.specs.declared.term.Term.{Term}
use Rattle.chr_base.specs.declared.term.Term.TheVariants.{Constant}
use Rattle.chr_base.specs.declared.rule.Rule.{Rule}
use Rattle.chr_types.specs.OrderTypes.{In, Rises, AreValues}
use Rattle.chr_confluence.specs.Constants.{rule_terms}

-- the constants among the terms, rising
pub record AreConstantsIn (ts : List Term) (cs : List ℤ) : Type 0 where
  pub rise : Rises cs
  pub values : AreValues cs
  pub stand : (c : ℤ) → In c cs → In (Constant c) ts
  pub all : (c : ℤ) → In (Constant c) ts → In c cs

-- the second list has the constants of the first and those of the terms
abbrev pub Gathers : List Term → List ℤ → List ℤ → Type 0
Gathers ts old new = (before : List Term) → AreConstantsIn before old → AreConstantsIn (before ++ ts) new

abbrev pub all_terms : List Rule → List Term
all_terms rules = flat_map rule_terms rules
