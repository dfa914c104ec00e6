-- The sorted cases of an overlap.
use Rattle.std.specs.Prelude.{◌≡◌, ℕ, ◌≤◌, ◌-◌, ℤ, Bool, true, false, ◌⊎◌, if◌then◌else◌, nat_le, List, [], ◌∷◌, ◌++◌}
use Rattle.std.specs.Prelude.{map, Some, slice_get}
use Rattle.chr_base.specs.declared.term.Term.{Term}
use Rattle.chr_base.specs.declared.term.Cmp.{Cmp}
use Rattle.chr_base.specs.declared.term.Cmp.TheVariants.{Less, AtMost, Greater, AtLeast, Equal, NotEqual}
use Rattle.chr_base.specs.declared.term.Comparison.{Comparison}
use Rattle.chr_base.specs.declared.rule.Rule.{Rule}
use Rattle.chr_base.specs.Rules.{Valuation}
use Rattle.chr_base.specs.Values.{Each}
use Rattle.chr_types.specs.OrderTypes.{In}
use Rattle.chr_confluence.specs.Cases.{IsCase, case_store, side}
use Rattle.chr_confluence.specs.Unifiers.{Substitution, IsMostGeneralUnifier, HasNoUnifier}
use Rattle.chr_confluence.specs.Overlaps.{IsMatching, variables_of, renamed_apart, equations_of}
use Rattle.chr_confluence.specs.Representatives.{free_variables, left_at, right_at, guards_hold}
use Rattle.chr_confluence.specs.Listed.{ListedCaseIsJoinable, listed_store, left_side, right_side}
use Rattle.chr_confluence.specs.Images.{image}
use Rattle.chr_confluence.specs.Sorts.{Sorts, sort_of}
use Rattle.chr_confluence.specs.SortMaps.{Map, Sets, IsSortedMap, move, is_within}
use Rattle.chr_confluence.specs.SortLists.{Cover}

abbrev pub is_equation : Cmp → Bool
is_equation Equal = true
is_equation NotEqual = false
is_equation Less = false
is_equation AtMost = false
is_equation Greater = false
is_equation AtLeast = false

-- what the =:= of a guard make equal
abbrev pub guard_equations : List Comparison → List (Term × Term)
guard_equations [] = []
guard_equations (c ∷ cs) = if is_equation c.cmp then (c.left, c.right) ∷ guard_equations cs else guard_equations cs

-- an equation of the second rule, renamed apart from the first rule
abbrev pub equation_apart : ℕ → (Term × Term) → Term × Term
equation_apart k e = (renamed_apart k e.0, renamed_apart k e.1)

-- the equations of the matching, and those of both guards
abbrev pub all_equations : Rule → Rule → List ℕ → List (Term × Term)
all_equations r1 r2 m =
    equations_of r1 r2 m ++ guard_equations r1.guard.items
    ++ map (equation_apart (variables_of r1)) (guard_equations r2.guard.items)

-- the sort of a variable of two rules, the second renamed apart from the first
abbrev pub joint_sort : Sorts → Rule → Rule → ℕ → ℕ
joint_sort o r1 r2 x = if nat_le x (variables_of r1) then sort_of o r1 x else sort_of o r2 (x - variables_of r1)

-- the sorts of the classes that the substitution leaves free
abbrev pub class_sorts : Sorts → Substitution → Rule → Rule → List ℕ
class_sorts o σ r1 r2 = map (joint_sort o r1 r2) (free_variables σ r1 r2)

-- The overlap's equations and those of the guards have no unifier. Or some lists of values of the free classes cover
-- all, and at each of these lists at which both guards hold the case is joinable.
abbrev pub SortedOverlapIsJoinable : Sorts → List Rule → Rule → Rule → List ℕ → Type 0
SortedOverlapIsJoinable o rules r1 r2 m =
    HasNoUnifier (all_equations r1 r2 m)
    ⊎ ((σ : Substitution) × (rs : List (List ℤ)) × IsMostGeneralUnifier σ (all_equations r1 r2 m)
    × Cover o (class_sorts o σ r1 r2) rs
    × ((zs : List ℤ) → In zs rs → guards_hold σ r1 r2 zs ≡ true → ListedCaseIsJoinable rules r1 r2 m σ zs))

-- each overlap of the rules is joinable; each rule is overlapped with those from itself on
abbrev pub SortedAreJoinable : Sorts → List Rule → Type 0
SortedAreJoinable o rules =
    (i j : ℕ) (r1 r2 : Rule) → slice_get rules i ≡ Some r1 → slice_get rules j ≡ Some r2 → i ≤ j
    → (m : List ℕ) → IsMatching r1 r2 m → SortedOverlapIsJoinable o rules r1 r2 m

-- the case at v1 and v2 is the image of the sorted one at zs, by a sorted map on its values
pub record IsImageOfSorted (o : Sorts) (r1 r2 : Rule) (m : List ℕ) (σ : Substitution) (rs : List (List ℤ))
    (v1 v2 : Valuation) : Type 0 where
  pub zs : List ℤ
  pub listed : In zs rs
  pub guards : guards_hold σ r1 r2 zs ≡ true
  pub case : IsCase r1 r2 m (left_at σ r1 r2 zs) (right_at σ r1 r2 zs)
  pub sets : Sets
  pub there : Each (is_within o sets) (listed_store σ r1 r2 m zs)
  pub to : Map
  pub sorted : IsSortedMap o to sets
  pub store : image (move o to) (listed_store σ r1 r2 m zs) ≡ case_store r1 r2 m v1 v2
  pub left : image (move o to) (left_side σ r1 r2 m zs) ≡ side r1 v1 (case_store r1 r2 m v1 v2)
  pub right : image (move o to) (right_side σ r1 r2 m zs) ≡ side r2 v2 (case_store r1 r2 m v1 v2)
