-- What the law of finest sorts says.
use Rattle.std.specs.Prelude.{◌≡◌, ℕ, ◌<◌, List}
use Rattle.chr_base.specs.declared.limits.TheConstants.{MAX_ARITY}
use Rattle.chr_base.specs.declared.rule.Rule.{Rule}
use Rattle.chr_base.specs.declared.program.Program.{Program}
use Rattle.chr_base.specs.Programs.{rules_of}
use Rattle.chr_confluence.specs.Sorts.{Sorts}
use Rattle.chr_overlaps.specs.declared.overlap.Overlap.{Overlap}
use Rattle.chr_overlaps.specs.declared.cases.Case.{Case}
use Rattle.chr_sorting.specs.FinestSorts.{AreFinest}
use Rattle.chr_sorting.specs.SortedCaseLists.{AreSortedCases, HasTooManyCombinations}

-- each program has finest sorts
abbrev pub FinestExist : Type 0
FinestExist = (p : Program) → (s : Sorts) × AreFinest (rules_of p) s

-- at the position k of the symbol a both have one sort, of one kind, with the same constants
pub record AreSameAt (s t : Sorts) (a k : ℕ) : Type 0 where
  pub sort : s.sort a k ≡ t.sort a k
  pub kind : s.kind (s.sort a k) ≡ t.kind (s.sort a k)
  pub constants : s.constants (s.sort a k) ≡ t.constants (s.sort a k)

-- any two finest sorts are the same at all positions
abbrev pub FinestAreOne : Type 0
FinestAreOne =
    (rules : List Rule) (s t : Sorts) → AreFinest rules s → AreFinest rules t → (a k : ℕ) → k < MAX_ARITY
    → AreSameAt s t a k

-- by any two finest sorts an overlap has the same sorted cases
abbrev pub FinestHaveOneCases : Type 0
FinestHaveOneCases =
    (rules : List Rule) (s t : Sorts) → AreFinest rules s → AreFinest rules t
    → (o : Overlap) (cs : List Case) → AreSortedCases s rules o cs → AreSortedCases t rules o cs

-- where an overlap has too many combinations by some finest sorts, it has by any
abbrev pub FinestHaveAsMany : Type 0
FinestHaveAsMany =
    (rules : List Rule) (s t : Sorts) → AreFinest rules s → AreFinest rules t
    → (o : Overlap) (n : ℕ) → HasTooManyCombinations s rules o n → HasTooManyCombinations t rules o n
