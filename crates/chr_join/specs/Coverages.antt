-- The cases of an overlap that a verdict looks at.
use Rattle.std.specs.Prelude.{ℕ, List}
use Rattle.chr_base.specs.declared.rule.Rule.{Rule}
use Rattle.chr_overlaps.specs.declared.overlap.Overlap.{Overlap}
use Rattle.chr_overlaps.specs.declared.cases.Case.{Case}
use Rattle.chr_overlaps.specs.CaseLists.{AreCases, IsTooMany}
use Rattle.chr_confluence.specs.Sorts.{Sorts}
use Rattle.chr_sorting.specs.FinestSorts.{AreFinest}
use Rattle.chr_sorting.specs.SortedCaseLists.{AreSortedCases, HasTooManyCombinations}
use Rattle.chr_join.specs.declared.coverage.Coverage.{Coverage}
use Rattle.chr_join.specs.declared.coverage.Coverage.TheVariants.{Joint, Sorted}

-- the cases at the order types of all classes of the overlap, or those that are sorted by the finest sorts of the rules
abbrev pub AreCasesBy : Coverage → List Rule → Overlap → List Case → Type 0
AreCasesBy Joint rules o cs = AreCases rules o cs
AreCasesBy Sorted rules o cs = (s : Sorts) × AreFinest rules s × AreSortedCases s rules o cs

-- n classes are bound to no constant, and there is no list of cases, since it would be too long
abbrev pub IsTooManyBy : Coverage → List Rule → Overlap → ℕ → Type 0
IsTooManyBy Joint rules o n = IsTooMany rules o n
IsTooManyBy Sorted rules o n = (s : Sorts) × AreFinest rules s × HasTooManyCombinations s rules o n
