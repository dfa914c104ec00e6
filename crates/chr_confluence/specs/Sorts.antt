-- Sorts of the positions of a program's symbols, and what they must be for its rules.
use Rattle.std.specs.Prelude.{◌≡◌, ℕ, suc, ℤ, Bool, true, false, ⊤, if◌then◌else◌, List, [], ◌∷◌, ◌++◌, Some, slice_get}
use Rattle.chr_base.specs.declared.term.Term.{Term}
use Rattle.chr_base.specs.declared.term.Term.TheVariants.{Variable, Constant}
use Rattle.chr_base.specs.declared.term.Cmp.{Cmp}
use Rattle.chr_base.specs.declared.term.Cmp.TheVariants.{Less, AtMost, Greater, AtLeast, Equal, NotEqual}
use Rattle.chr_base.specs.declared.term.Comparison.{Comparison}
use Rattle.chr_base.specs.declared.term.Pattern.{Pattern}
use Rattle.chr_base.specs.declared.rule.Rule.{Rule}
use Rattle.chr_base.specs.RuleTests.{is_variable}
use Rattle.chr_base.specs.Rules.{heads_of}
use Rattle.chr_types.specs.OrderTypes.{In}

-- How a program compares the values of a sort: by their order, by =\= and =:=, or by =:= alone.
pub data Kind : Type 0 where
  ordered : Kind
  equal : Kind
  free : Kind

-- A position is a symbol with an argument number, from 0. Positions have sorts, and each sort has a kind and constants.
pub record Sorts : Type 0 where
  pub sort : ℕ → ℕ → ℕ
  pub kind : ℕ → Kind
  pub constants : ℕ → List ℤ

-- ---- where a rule's terms stand

-- terms, the first of which is the argument of number k, each with the sort of its position
abbrev pub terms_from : (ℕ → ℕ) → ℕ → List Term → List (ℕ × Term)
terms_from sort k [] = []
terms_from sort k (t ∷ ts) = (sort k, t) ∷ terms_from sort (suc k) ts

-- all arguments of these patterns, each with the sort of its position
abbrev pub sorted_terms : Sorts → List Pattern → List (ℕ × Term)
sorted_terms o [] = []
sorted_terms o (p ∷ ps) = terms_from (o.sort p.symbol.0) 0 p.args.items ++ sorted_terms o ps

-- all arguments of a rule's heads and of its body, each with the sort of its position
abbrev pub sorted_rule_terms : Sorts → Rule → List (ℕ × Term)
sorted_rule_terms o r = sorted_terms o (heads_of r) ++ sorted_terms o r.body.items

-- the sort with which the variable stands first in the list
abbrev pub first_sort : List (ℕ × Term) → ℕ → ℕ
first_sort [] x = 0
first_sort (p ∷ ps) x = if is_variable x p.1 then p.0 else first_sort ps x

-- the sort of a variable of the rule: that of its first position in the heads
abbrev pub sort_of : Sorts → Rule → ℕ → ℕ
sort_of o r x = first_sort (sorted_terms o (heads_of r)) x

-- ---- what sorts must be

-- whether a kind tells the sign's answers: every kind those of =:=, all but the free one those of =\=
abbrev pub tells : Kind → Cmp → Bool
tells k Equal = true
tells ordered NotEqual = true
tells equal NotEqual = true
tells free NotEqual = false
tells ordered Less = true
tells equal Less = false
tells free Less = false
tells ordered AtMost = true
tells equal AtMost = false
tells free AtMost = false
tells ordered Greater = true
tells equal Greater = false
tells free Greater = false
tells ordered AtLeast = true
tells equal AtLeast = false
tells free AtLeast = false

-- What sorts must be for a comparison, where `at` gives the sort of each variable: two variables are of one sort, a
-- constant is one of the variable's sort, and the sort's kind tells the sign. Between a variable and itself, or two
-- constants, nothing is compared.
abbrev pub FitComparison : Sorts → (ℕ → ℕ) → Cmp → Term → Term → Type 0
FitComparison o at c (Variable x) (Variable y) =
    (at x ≡ at y) × (¬ (x ≡ y) → tells (o.kind (at x)) c ≡ true)
FitComparison o at c (Variable x) (Constant d) = In d (o.constants (at x)) × (tells (o.kind (at x)) c ≡ true)
FitComparison o at c (Constant d) (Variable y) = In d (o.constants (at y)) × (tells (o.kind (at y)) c ≡ true)
FitComparison o at c (Constant d) (Constant e) = ⊤

-- The sorts fit a rule. They need not be the finest that do, nor the kinds the least: whatever holds of sorts that fit
-- holds of those.
pub record FitRule (o : Sorts) (r : Rule) : Type 0 where
  -- all positions at which a variable stands, in heads or in the body, are of its sort
  pub variables : (k x : ℕ) → In (k, Variable x) (sorted_rule_terms o r) → k ≡ sort_of o r x
  -- each constant is one of the sort of its position
  pub constants : (k : ℕ) (c : ℤ) → In (k, Constant c) (sorted_rule_terms o r) → In c (o.constants k)
  -- the guard compares values of one sort, as its kind allows
  pub compared : (c : Comparison) → In c r.guard.items → FitComparison o (sort_of o r) c.cmp c.left c.right

-- the sorts fit each of the rules
abbrev pub Fit : Sorts → List Rule → Type 0
Fit o rules = (i : ℕ) (r : Rule) → slice_get rules i ≡ Some r → FitRule o r
