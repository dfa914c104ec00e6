-- The verdict on rules: overlaps are taken in order, and in each its cases in order, as a coverage has them.
use Rattle.std.specs.Prelude.{◌≡◌, ℕ, ◌+◌, List, [], ◌∷◌, ◌++◌, length}
use Rattle.std.specs.List.{All}
use Rattle.chr_base.specs.declared.rule.Rule.{Rule}
use Rattle.chr_overlaps.specs.declared.overlap.Overlap.{Overlap}
use Rattle.chr_overlaps.specs.declared.cases.Case.{Case}
use Rattle.chr_overlaps.specs.OverlapLists.{AreOverlaps}
use Rattle.chr_join.specs.declared.coverage.Coverage.{Coverage}
use Rattle.chr_join.specs.declared.coverage.Coverage.TheVariants.{Joint}
use Rattle.chr_join.specs.Coverages.{AreCasesBy}
use Rattle.chr_join.specs.Sides.{IsJoinable}

-- The overlap o has n cases, and each is joinable.
pub record HasJoinableCasesBy (coverage : Coverage) (rules : List Rule) (o : Overlap) (n : ℕ) : Type 0 where
  pub cases : List Case
  pub listed : AreCasesBy coverage rules o cases
  pub joinable : All (IsJoinable rules) cases
  pub number : n ≡ length cases

-- These overlaps have n cases in all, and each is joinable.
abbrev pub HaveJoinableCasesBy : Coverage → List Rule → List Overlap → ℕ → Type 0
HaveJoinableCasesBy coverage rules [] n = n ≡ 0
HaveJoinableCasesBy coverage rules (o ∷ os) n =
    (k : ℕ) × (m : ℕ) × HasJoinableCasesBy coverage rules o k × HaveJoinableCasesBy coverage rules os m × (n ≡ k + m)

-- All overlaps of the rules have n cases, and each is joinable.
pub record IsAcceptedBy (coverage : Coverage) (rules : List Rule) (n : ℕ) : Type 0 where
  pub overlaps : List Overlap
  pub listed : AreOverlaps rules overlaps
  pub joinable : HaveJoinableCasesBy coverage rules overlaps n

-- o is an overlap of the rules, and all cases of those before it are joinable.
pub record IsFirstBy (coverage : Coverage) (rules : List Rule) (o : Overlap) : Type 0 where
  pub before : List Overlap
  pub after : List Overlap
  pub listed : AreOverlaps rules (before ++ o ∷ after)
  pub joinable : All (λ p. (n : ℕ) × HasJoinableCasesBy coverage rules p n) before

-- c is a case of the overlap o, and its cases before c are joinable.
pub record IsFirstCaseBy (coverage : Coverage) (rules : List Rule) (o : Overlap) (c : Case) : Type 0 where
  pub before : List Case
  pub after : List Case
  pub listed : AreCasesBy coverage rules o (before ++ c ∷ after)
  pub joinable : All (IsJoinable rules) before

-- all overlaps of the rules have n joint cases, and each is joinable
abbrev pub IsAccepted : List Rule → ℕ → Type 0
IsAccepted rules n = IsAcceptedBy Joint rules n
