-- The list of all overlaps of a program's rules.
use Rattle.std.specs.Prelude.{◌≡◌, ℕ, ◌+◌, ◌<◌, ◌≤◌, List, ◌∷◌}
use Rattle.std.specs.declared.cmp.Ordering.{Ordering}
use Rattle.std.specs.declared.cmp.Ordering.TheVariants.{Less}
use Rattle.std.specs.Ordering.{nat_cmp}
use Rattle.std.specs.Cmp.Lexicographic.{slice_cmp}
use Rattle.chr_base.specs.declared.rule.Rule.{Rule}
use Rattle.chr_types.specs.OrderTypes.{In, RisesBy}
use Rattle.chr_confluence.specs.Overlaps.{IsOverlap}
use Rattle.chr_overlaps.specs.declared.overlap.Overlap.{Overlap}

-- an overlap of the rules at the places i and j, which are counted from 0
abbrev pub IsOverlapAt : List Rule → ℕ → ℕ → Overlap → Type 0
IsOverlapAt rules i j o = (o.first ≡ i + 1) × (o.second ≡ j + 1) × IsOverlap rules i j o.matching.items

-- an overlap of these rules
abbrev pub IsOverlapOf : List Rule → Overlap → Type 0
IsOverlapOf rules o = (i : ℕ) × (j : ℕ) × IsOverlapAt rules i j o

-- the numbers by which overlaps are ordered: the first rule, the second, and the matching entry by entry
abbrev pub entries : Overlap → List ℕ
entries o = o.first ∷ o.second ∷ o.matching.items

abbrev pub overlap_cmp : Overlap → Overlap → Ordering
overlap_cmp o p = slice_cmp nat_cmp (entries o) (entries p)

-- all overlaps of these rules, each once, in order
pub record AreOverlaps (rules : List Rule) (os : List Overlap) : Type 0 where
  pub each : (o : Overlap) → In o os → IsOverlapOf rules o
  pub all : (o : Overlap) → IsOverlapOf rules o → In o os
  pub rise : RisesBy (λ o p. overlap_cmp o p ≡ Less) os

-- all overlaps of these rules whose first rule stands at the place a or after it, and before the place n, each once, in
-- order
pub record AreOverlapsBetween (rules : List Rule) (a n : ℕ) (os : List Overlap) : Type 0 where
  pub each : (o : Overlap) → In o os → IsOverlapOf rules o × (a < o.first) × (o.first ≤ n)
  pub all : (o : Overlap) → IsOverlapOf rules o → a < o.first → o.first ≤ n → In o os
  pub rise : RisesBy (λ o p. overlap_cmp o p ≡ Less) os
