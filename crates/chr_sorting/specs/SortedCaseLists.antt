-- The list of all sorted cases of an overlap.
use Rattle.std.specs.Prelude.{◌≡◌, ℕ, ℤ, pos, ◌≤ℤ◌, ◌<ℤ◌, ◌-◌, ◌<◌, ◌≤◌, ◌⊎◌, ◌↔◌, List, [], ◌∷◌, map, length, Some}
use Rattle.std.specs.Prelude.{slice_get}
use Rattle.std.specs.List.{filter}
use Rattle.std.specs.Ordering.{int_cmp}
use Rattle.std.specs.declared.cmp.Ordering.TheVariants.{Less}
use Rattle.std.specs.Cmp.Lexicographic.{slice_cmp}
use Rattle.chr_base.specs.declared.rule.Rule.{Rule}
use Rattle.chr_types.specs.OrderTypes.{In, Rises, RisesBy, AreValues}
use Rattle.chr_types.specs.Representatives.{AreTypes}
use Rattle.chr_confluence.specs.Unifiers.{Substitution, IsMostGeneralUnifier, HasNoUnifier}
use Rattle.chr_confluence.specs.Representatives.{guards_hold}
use Rattle.chr_confluence.specs.Sorts.{Sorts, Kind, ordered, equal, free}
use Rattle.chr_confluence.specs.SortLists.{AreBlocks, values_at, sort_count}
use Rattle.chr_confluence.specs.SortedCases.{all_equations, class_sorts}
use Rattle.chr_overlaps.specs.declared.overlap.Overlap.{Overlap}
use Rattle.chr_overlaps.specs.declared.cases.Case.{Case}
use Rattle.chr_overlaps.specs.declared.cases.TheConstants.{MAX_TYPES}
use Rattle.chr_overlaps.specs.CaseLists.{case_at}

-- us are the first numbers from 0 that are none of the constants cs
pub record AreFirstNumbers (cs us : List ℤ) : Type 0 where
  pub values : AreValues us
  pub rise : Rises us
  pub new : (z : ℤ) → In z us → (pos 0 ≤ℤ z) × (¬ In z cs)
  pub all : (z x : ℤ) → In z us → pos 0 ≤ℤ x → x <ℤ z → In x us ⊎ In x cs

-- The lists of n values at a sort with these constants, by its kind. At a free sort there is one list, of all different
-- values. At an equal sort there is a list for each way to put the values into blocks, each block at a constant or at
-- none. At an ordered sort there are the representatives of the order types. The lists rise.
abbrev pub AreListsAt : Kind → List ℤ → ℕ → List (List ℤ) → Type 0
AreListsAt free cs n ls = (us : List ℤ) × (length us ≡ n) × AreFirstNumbers cs us × (ls ≡ us ∷ [])
AreListsAt equal cs n ls =
    (us : List ℤ) × (length us ≡ n) × AreFirstNumbers cs us
    × ((zs : List ℤ) → In zs ls ↔ ((length zs ≡ n) × AreBlocks cs [] us zs))
    × RisesBy (λ r t. slice_cmp int_cmp r t ≡ Less) ls
AreListsAt ordered cs n ls = AreTypes n cs ls

-- there are more lists of n values at the sort than the limit
abbrev pub MoreListsThan : ℕ → Kind → List ℤ → ℕ → Type 0
MoreListsThan limit kind cs n = (ls : List (List ℤ)) × AreListsAt kind cs n ls × (limit < length ls)

-- all combinations of one list at each of the sorts ks, in lexicographic order
pub record AreCombinations (s : Sorts) (ks : List ℕ) (rs : List (List ℤ)) : Type 0 where
  pub lists : ℕ → List (List ℤ)
  pub each : (k : ℕ) → In k ks → AreListsAt (s.kind k) (s.constants k) (sort_count k ks) (lists k)
  pub combined : (us : List ℤ)
      → In us rs ↔ ((length us ≡ length ks) × ((k : ℕ) → In k ks → In (values_at k ks us) (lists k)))
  pub order : RisesBy (λ r t. slice_cmp int_cmp r t ≡ Less) rs

-- there are more combinations than the limit
abbrev pub MoreCombinationsThan : Sorts → List ℕ → ℕ → Type 0
MoreCombinationsThan s ks limit = (rs : List (List ℤ)) × AreCombinations s ks rs × (limit < length rs)

-- under a most general unifier of the matched heads and of both guards' equations: the cases at the combinations at
-- which both guards hold, in order
pub record AreSortedListed (s : Sorts) (o : Overlap) (r1 r2 : Rule) (cs : List Case) : Type 0 where
  pub classes : Substitution
  pub combinations : List (List ℤ)
  pub solves : IsMostGeneralUnifier classes (all_equations r1 r2 o.matching.items)
  pub all : AreCombinations s (class_sorts s classes r1 r2) combinations
  pub within : length combinations ≤ MAX_TYPES
  pub cases_are : cs ≡ map (case_at o r1 r2 classes) (filter (guards_hold classes r1 r2) combinations)

-- the sorted cases of the overlap: none where the equations have no unifier, and else those at its combinations
pub record AreSortedCases (s : Sorts) (rules : List Rule) (o : Overlap) (cs : List Case) : Type 0 where
  pub rule1 : Rule
  pub rule2 : Rule
  pub first : slice_get rules (o.first - 1) ≡ Some rule1
  pub second : slice_get rules (o.second - 1) ≡ Some rule2
  pub listed : (HasNoUnifier (all_equations rule1 rule2 o.matching.items) × (cs ≡ []))
      ⊎ AreSortedListed s o rule1 rule2 cs

-- under a most general unifier of the matched heads and of both guards' equations: n classes are bound to no constant,
-- and there are too many combinations
pub record HasTooManyCombinations (s : Sorts) (rules : List Rule) (o : Overlap) (n : ℕ) : Type 0 where
  pub rule1 : Rule
  pub rule2 : Rule
  pub first : slice_get rules (o.first - 1) ≡ Some rule1
  pub second : slice_get rules (o.second - 1) ≡ Some rule2
  pub classes : Substitution
  pub solves : IsMostGeneralUnifier classes (all_equations rule1 rule2 o.matching.items)
  pub number : n ≡ length (class_sorts s classes rule1 rule2)
  pub many : MoreCombinationsThan s (class_sorts s classes rule1 rule2) MAX_TYPES
