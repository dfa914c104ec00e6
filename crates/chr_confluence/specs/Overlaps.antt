-- Overlaps of two rules of a program, and the equations that matched heads make.
use Rattle.std.specs.List.{zip}
use Rattle.std.specs.Prelude.{◌≡◌, ℕ, zero, suc, ◌+◌, ◌≤◌, true, List, [], ◌∷◌, ◌++◌, map, length, Some, slice_get}
use Rattle.std.specs.Prelude.{get_or}
use Rattle.std.specs.Option.{unwrap_or}
use Rattle.chr_base.specs.declared.term.Term.{Term}
use Rattle.chr_base.specs.declared.term.Term.TheVariants.{Variable, Constant}
use Rattle.chr_base.specs.declared.term.Pattern.{Pattern}
use Rattle.chr_base.specs.declared.rule.Rule.{Rule}
use Rattle.chr_base.specs.RuleTests.{numbered, terms_of}
use Rattle.chr_base.specs.Rules.{heads_of, no_pattern}
use Rattle.chr_confluence.specs.Matchings.{IsInjective, matches_removed}
use Rattle.std.specs.Prelude.{⊤}

-- heads at matched places have one symbol, and as many arguments
abbrev pub SameSymbols : List Pattern → List ℕ → List Pattern → Type 0
SameSymbols qs [] [] = ⊤
SameSymbols qs [] (p ∷ ps) = ⊥
SameSymbols qs (e ∷ m) [] = ⊥
SameSymbols qs (zero ∷ m) (p ∷ ps) = SameSymbols qs m ps
SameSymbols qs (suc k ∷ m) (p ∷ ps) =
    ((q : Pattern) × (slice_get qs k ≡ Some q)
    × (p.symbol.0 ≡ q.symbol.0) × (length p.args.items ≡ length q.args.items))
    × SameSymbols qs m ps

-- a matching of the heads of two rules, with a matched head that is removed in its rule
pub record IsMatching (r1 r2 : Rule) (m : List ℕ) : Type 0 where
  pub symbols : SameSymbols (heads_of r2) m (heads_of r1)
  pub apart : IsInjective m
  pub touching : matches_removed (length r1.kept.items) (length r2.kept.items) m ≡ true

-- a matching of the rules at the places i and j, the second not before the first
pub record IsOverlap (rules : List Rule) (i j : ℕ) (m : List ℕ) : Type 0 where
  pub rule1 : Rule
  pub rule2 : Rule
  pub first : slice_get rules i ≡ Some rule1
  pub second : slice_get rules j ≡ Some rule2
  pub ordered : i ≤ j
  pub matching : IsMatching rule1 rule2 m

-- the number of a rule's variables, which are 1, 2, .. up to it
abbrev pub variables_of : Rule → ℕ
variables_of r = unwrap_or (numbered 0 (terms_of (heads_of r))) 0

-- a term of the second rule, renamed apart from the first rule, which has k variables
abbrev pub renamed_apart : ℕ → Term → Term
renamed_apart k (Variable x) = Variable (k + x)
renamed_apart k (Constant c) = Constant c

-- the equations of the arguments at all matched places, where the first rule has k variables
abbrev pub equations : ℕ → List Pattern → List ℕ → List Pattern → List (Term × Term)
equations k qs [] ps = []
equations k qs (e ∷ m) [] = []
equations k qs (zero ∷ m) (p ∷ ps) = equations k qs m ps
equations k qs (suc e ∷ m) (p ∷ ps) =
    zip p.args.items (map (renamed_apart k) (get_or qs e no_pattern).args.items) ++ equations k qs m ps

-- what makes the matched heads of the two rules equal
abbrev pub equations_of : Rule → Rule → List ℕ → List (Term × Term)
equations_of r1 r2 m = equations (variables_of r1) (heads_of r2) m (heads_of r1)
