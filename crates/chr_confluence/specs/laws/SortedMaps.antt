-- What the law of sorted maps says.
use Rattle.std.specs.Prelude.{◌≡◌, ℕ, ℤ, true, List}
use Rattle.chr_base.specs.declared.rule.Rule.{Rule}
use Rattle.chr_base.specs.Stores.{Store}
use Rattle.chr_base.specs.Rules.{Step, StepBy, Valuation}
use Rattle.chr_base.specs.Rewriting.{Reaches, AreJoinable}
use Rattle.chr_base.specs.Values.{Each}
use Rattle.chr_types.specs.OrderTypes.{In}
use Rattle.chr_confluence.specs.Images.{image}
use Rattle.chr_confluence.specs.Sorts.{Sorts, FitRule, Fit, sort_of}
use Rattle.chr_confluence.specs.SortMaps.{Map, Sets, IsSortedMap, move, is_within}

-- a step brings in, at each sort, no value that is neither in the store at that sort nor one of the sort's constants
abbrev pub SortsStay : Type 0
SortsStay =
    (o : Sorts) (d : Sets) (r : Rule) (v : Valuation) (s t : Store) → FitRule o r
    → ((k : ℕ) (c : ℤ) → In c (o.constants k) → d k c ≡ true) → Each (is_within o d) s → StepBy r v s t
    → Each (is_within o d) t

-- a sorted map carries each step on a store of values in its sets to that of the mapped instance
abbrev pub SortedStepsAreCarried : Type 0
SortedStepsAreCarried =
    (o : Sorts) (h : Map) (d : Sets) (r : Rule) (v : Valuation) (s t : Store) → FitRule o r → IsSortedMap o h d
    → Each (is_within o d) s → StepBy r v s t
    → StepBy r (λ x. h (sort_of o r x) (v x)) (image (move o h) s) (image (move o h) t)

-- a sorted map carries runs from a store of values in its sets
abbrev pub SortedRunsAreCarried : Type 0
SortedRunsAreCarried =
    (o : Sorts) (h : Map) (d : Sets) (rules : List Rule) (s t : Store) → Fit o rules → IsSortedMap o h d
    → Each (is_within o d) s → Reaches (Step rules) s t
    → Reaches (Step rules) (image (move o h) s) (image (move o h) t)

abbrev pub SortedJoinsAreCarried : Type 0
SortedJoinsAreCarried =
    (o : Sorts) (h : Map) (d : Sets) (rules : List Rule) (t u : Store) → Fit o rules → IsSortedMap o h d
    → Each (is_within o d) t → Each (is_within o d) u → AreJoinable (Step rules) t u
    → AreJoinable (Step rules) (image (move o h) t) (image (move o h) u)
