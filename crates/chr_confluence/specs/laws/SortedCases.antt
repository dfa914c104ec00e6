-- What the laws of sorted cases say.
use Rattle.std.specs.Prelude.{◌≡◌, ◌≢◌, ℕ, ℤ, true, List, length, Some, slice_get}
use Rattle.chr_base.specs.declared.atom.Atom.{Atom}
use Rattle.chr_base.specs.declared.rule.Rule.{Rule}
use Rattle.chr_base.specs.Stores.{Store}
use Rattle.chr_base.specs.Rules.{Step, Valuation}
use Rattle.chr_base.specs.Rewriting.{IsNormalForm}
use Rattle.chr_base.specs.Values.{Each, HasValues, args_in, is_value}
use Rattle.chr_types.specs.OrderTypes.{AreValues}
use Rattle.chr_confluence.specs.Cases.{IsCase, case_store, CasesAreJoinable}
use Rattle.chr_confluence.specs.Confluence.{Confluent}
use Rattle.chr_confluence.specs.Unifiers.{Substitution, IsMostGeneralUnifier}
use Rattle.chr_confluence.specs.Overlaps.{IsMatching}
use Rattle.chr_confluence.specs.Representatives.{free_variables, left_at, right_at, guards_hold}
use Rattle.chr_confluence.specs.Lowering.{RulesLower}
use Rattle.chr_confluence.specs.Listed.{listed_store, left_side, right_side}
use Rattle.chr_confluence.specs.Sorts.{Sorts, Fit}
use Rattle.chr_confluence.specs.SortLists.{Cover}
use Rattle.chr_confluence.specs.SortedCases.{all_equations, class_sorts, IsImageOfSorted, SortedAreJoinable}

-- every case of 64-bit values is the image of a sorted one, under a sorted map
abbrev pub EveryCaseIsSorted : Type 0
EveryCaseIsSorted =
    (o : Sorts) (rules : List Rule) → Fit o rules
    → (i j : ℕ) (r1 r2 : Rule) → slice_get rules i ≡ Some r1 → slice_get rules j ≡ Some r2
    → (m : List ℕ) (v1 v2 : Valuation) → IsCase r1 r2 m v1 v2
    → Each (args_in is_value) (case_store r1 r2 m v1 v2)
    → (σ : Substitution) (rs : List (List ℤ)) → IsMostGeneralUnifier σ (all_equations r1 r2 m)
    → Cover o (class_sorts o σ r1 r2) rs → IsImageOfSorted o r1 r2 m σ rs v1 v2

-- what stands at values at which both guards hold is a case
abbrev pub SortedAreCases : Type 0
SortedAreCases =
    (r1 r2 : Rule) (m : List ℕ) → IsMatching r1 r2 m
    → (σ : Substitution) → IsMostGeneralUnifier σ (all_equations r1 r2 m)
    → (zs : List ℤ) → guards_hold σ r1 r2 zs ≡ true → IsCase r1 r2 m (left_at σ r1 r2 zs) (right_at σ r1 r2 zs)

-- the case at 64-bit values of the free classes has 64-bit values
abbrev pub SortedHaveValues : Type 0
SortedHaveValues =
    (r1 r2 : Rule) (m : List ℕ) → IsMatching r1 r2 m
    → (σ : Substitution) → IsMostGeneralUnifier σ (all_equations r1 r2 m)
    → (zs : List ℤ) → length zs ≡ length (free_variables σ r1 r2) → AreValues zs
    → HasValues (listed_store σ r1 r2 m zs)

-- where the sorted cases are joinable, every case of 64-bit values is
abbrev pub SortedSuffice : Type 0
SortedSuffice =
    (o : Sorts) (rules : List Rule) → Fit o rules → SortedAreJoinable o rules
    → CasesAreJoinable (args_in is_value) rules

-- rules that lower a weight are confluent where the sorted cases are joinable
abbrev pub SortedMakeConfluent : Type 0
SortedMakeConfluent =
    (o : Sorts) (rules : List Rule) (w : Atom → ℕ) → Fit o rules → RulesLower w rules → SortedAreJoinable o rules
    → Confluent rules

-- a sorted case of 64-bit values whose sides have normal forms that differ refutes confluence
abbrev pub FailingSortedRefutes : Type 0
FailingSortedRefutes =
    (rules : List Rule) (i j : ℕ) (r1 r2 : Rule) → slice_get rules i ≡ Some r1 → slice_get rules j ≡ Some r2
    → (m : List ℕ) → IsMatching r1 r2 m
    → (σ : Substitution) → IsMostGeneralUnifier σ (all_equations r1 r2 m)
    → (zs : List ℤ) → length zs ≡ length (free_variables σ r1 r2) → AreValues zs → guards_hold σ r1 r2 zs ≡ true
    → (a b : Store) → IsNormalForm (Step rules) (left_side σ r1 r2 m zs) a
    → IsNormalForm (Step rules) (right_side σ r1 r2 m zs) b → a ≢ b → ¬ Confluent rules
