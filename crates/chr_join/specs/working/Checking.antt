-- What is found out about a case and about an overlap.
use Rattle.std.specs.Prelude.{◌≡◌, ℕ, ℤ, List, Option, IfSome, take, drop}
use Rattle.std.specs.List.{All, AllZip}
use Rattle.chr_types.specs.OrderTypes.{MoreTypesThan}
use Rattle.chr_overlaps.specs.declared.cases.TheConstants.{MAX_TYPES}
use Rattle.chr_base.specs.declared.rule.Rule.{Rule}
use Rattle.chr_base.specs.Stores.{Store}
use Rattle.chr_confluence.specs.Constants.{AreConstants}
use Rattle.chr_overlaps.specs.declared.overlap.Overlap.{Overlap}
use Rattle.chr_overlaps.specs.declared.cases.Case.{Case}
use Rattle.chr_sorting.specs.FinestSorts.{AreFinest, sorts_of}
use Rattle.chr_join.specs.declared.coverage.Coverage.{Coverage}
use Rattle.chr_join.specs.declared.ahead.Ahead.{Ahead}
use Rattle.chr_join.specs.declared.lister.Lister.{Lister}
use Rattle.chr_join.specs.declared.refused.Cause.{Cause}
use Rattle.chr_join.specs.Sides.{SideEnds}
use Rattle.chr_join.specs.Verdicts.{HasJoinableCasesBy, IsFirstBy}
use Rattle.chr_join.specs.Explanations.{IsRefusalBy}

-- Both sides of the case end in these stores, which differ.
pub record EndApart (rules : List Rule) (c : Case) (ends : Store × Store) : Type 0 where
  pub left : SideEnds rules c.store c.left ends.0
  pub right : SideEnds rules c.store c.right ends.1
  pub differ : ¬ (ends.0 ≡ ends.1)

-- The cause is that of the rules, if this overlap is the first that has one.
abbrev pub RefusesAt : Coverage → List Rule → Overlap → Cause → Type 0
RefusesAt coverage rules o e = IsFirstBy coverage rules o → IsRefusalBy coverage rules e

-- The overlap has a list of cases, and each is joinable.
abbrev pub Joins : Coverage → List Rule → Overlap → Type 0
Joins coverage rules o = (n : ℕ) × HasJoinableCasesBy coverage rules o n

-- The overlap has k cases, where k is a number, and each is joinable.
abbrev pub IsNumberOf : Coverage → List Rule → Overlap → Option ℕ → Type 0
IsNumberOf coverage rules o k = IfSome k (HasJoinableCasesBy coverage rules o)

-- The numbers that were found out are those of overlaps in a row, from a place on.
abbrev pub AreAhead : Coverage → List Rule → List Overlap → Ahead → Type 0
AreAhead coverage rules os a =
    (n : ℕ) × AllZip (IsNumberOf coverage rules) (take n (drop a.start os)) a.numbers.items

-- For each number n of the list, n classes have no more order types than an overlap may have.
abbrev pub HaveFewTypes : List ℤ → List ℕ → Type 0
HaveFewTypes constants ns = All (λ n. ¬ MoreTypesThan MAX_TYPES n constants) ns

-- What cases are listed from: the constants of the rules, and the finest sorts of their positions.
pub record IsListerOf (rules : List Rule) (l : Lister) : Type 0 where
  pub constants : AreConstants rules l.constants.items
  pub finest : AreFinest rules (sorts_of l.sorting)
