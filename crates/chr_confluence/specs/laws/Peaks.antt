-- What the law of peaks says.
use Rattle.std.specs.Prelude.{ℕ, List, ◌⊎◌}
use Rattle.chr_base.specs.declared.rule.Rule.{Rule}
use Rattle.chr_base.specs.Stores.{Store}
use Rattle.chr_base.specs.Rules.{StepBy, Valuation}
use Rattle.chr_confluence.specs.Cases.{side, IsCase, case_store}
use Rattle.chr_confluence.specs.Overlaps.{IsMatching}
use Rattle.chr_confluence.specs.Peaks.{Commute, HoldsCase}

-- two steps from one store commute, or it holds a case of their instances
abbrev pub PeaksCommuteOrOverlap : Type 0
PeaksCommuteOrOverlap =
    (r1 r2 : Rule) (v1 v2 : Valuation) (s t u : Store) → StepBy r1 v1 s t → StepBy r2 v2 s u
    → Commute r1 r2 v1 v2 t u ⊎ HoldsCase r1 r2 v1 v2 s

-- the matching of a case is one of those of the two rules
abbrev pub CasesAreMatched : Type 0
CasesAreMatched = (r1 r2 : Rule) (m : List ℕ) (v1 v2 : Valuation) → IsCase r1 r2 m v1 v2 → IsMatching r1 r2 m

-- both sides of a case are one step from its store
abbrev pub LeftSideIsStep : Type 0
LeftSideIsStep =
    (r1 r2 : Rule) (m : List ℕ) (v1 v2 : Valuation) → IsCase r1 r2 m v1 v2
    → StepBy r1 v1 (case_store r1 r2 m v1 v2) (side r1 v1 (case_store r1 r2 m v1 v2))

abbrev pub RightSideIsStep : Type 0
RightSideIsStep =
    (r1 r2 : Rule) (m : List ℕ) (v1 v2 : Valuation) → IsCase r1 r2 m v1 v2
    → StepBy r2 v2 (case_store r1 r2 m v1 v2) (side r2 v2 (case_store r1 r2 m v1 v2))
