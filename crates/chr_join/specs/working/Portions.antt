-- Overlaps that are taken portion by portion, those of some first rules at once.
use Rattle.std.specs.Prelude.{◌≡◌, ℕ, ◌+◌, ◌-◌, ◌*◌, ◌^◌, ◌<◌, ◌≤◌, ◌⊎◌, List, ◌++◌, length, map, Some, slice_get}
use Rattle.std.specs.List.{All}
use Rattle.chr_base.specs.declared.limits.TheConstants.{MAX_HEADS, MAX_RULES}
use Rattle.chr_base.specs.declared.rule.Rule.{Rule}
use Rattle.chr_base.specs.Sameness.{parts_of}
use Rattle.chr_overlaps.specs.declared.overlap.Overlap.{Overlap}
use Rattle.chr_overlaps.specs.OverlapLists.{IsOverlapOf, AreOverlaps, AreOverlapsBetween}
use Rattle.chr_join.specs.declared.coverage.Coverage.{Coverage}
use Rattle.chr_join.specs.declared.coverage.Coverage.TheVariants.{Sorted}
use Rattle.chr_join.specs.declared.portions.Portion.{Portion}
use Rattle.chr_join.specs.declared.refused.Cause.{Cause}
use Rattle.chr_join.specs.Verdicts.{HaveJoinableCasesBy}
use Rattle.chr_join.specs.Explanations.{IsRefusalBy}
use Rattle.chr_join.specs.working.Checking.{Joins}

-- the greatest number of overlaps of one first rule
abbrev pub MOST_OF_RULE : ℕ
MOST_OF_RULE = MAX_RULES * (MAX_HEADS + 1) ^ MAX_HEADS

-- all overlaps whose first rule stands at the place a or after it, and before the portion's end
pub record IsPortion (rules : List Rule) (a : ℕ) (p : Portion) : Type 0 where
  pub begins : a < p.end
  pub within : p.end ≤ length rules
  pub listed : AreOverlapsBetween rules a p.end p.overlaps.items
  pub few : length p.overlaps.items ≤ (p.end - a) * MOST_OF_RULE

-- the overlaps whose first rule stands before the place n have `total` cases, and each is joinable
pub record HaveJoined (coverage : Coverage) (rules : List Rule) (n total : ℕ) : Type 0 where
  pub overlaps : List Overlap
  pub listed : AreOverlapsBetween rules 0 n overlaps
  pub few : length overlaps ≤ n * MOST_OF_RULE
  pub joinable : HaveJoinableCasesBy coverage rules overlaps total

-- the cause is that of the rules, if these overlaps come next, and all cases of those before them are joinable
abbrev pub RefusesIn : Coverage → List Rule → List Overlap → Cause → Type 0
RefusesIn coverage rules os e =
    (before after : List Overlap) → AreOverlaps rules (before ++ (os ++ after))
    → All (Joins coverage rules) before → IsRefusalBy coverage rules e

-- ---- copies

-- the rules at these places say the same
abbrev pub AreCopies : List Rule → ℕ → ℕ → Type 0
AreCopies rules k i = slice_get (map parts_of rules) k ≡ slice_get (map parts_of rules) i

-- each place has a place up to it at which a rule stands that says the same
pub record AreOriginals (rules : List Rule) (ks : List ℕ) : Type 0 where
  pub number : length ks ≡ length rules
  pub same : (i k : ℕ) → slice_get ks i ≡ Some k → (k ≤ i) × AreCopies rules k i

-- an overlap of copies of its rules, with the same matching, has lesser numbers
pub record IsCopy (rules : List Rule) (o : Overlap) : Type 0 where
  pub original : Overlap
  pub overlap : IsOverlapOf rules original
  pub lesser : original.first + original.second < o.first + o.second
  pub first : AreCopies rules (original.first - 1) (o.first - 1)
  pub second : AreCopies rules (original.second - 1) (o.second - 1)
  pub matching : original.matching.items ≡ o.matching.items

-- the overlap's sorted cases are joinable, or are those of an overlap with lesser numbers
abbrev pub IsSettled : List Rule → Overlap → Type 0
IsSettled rules o = Joins Sorted rules o ⊎ IsCopy rules o

-- all overlaps whose first rule stands before the place n are settled
abbrev pub HaveSettled : List Rule → ℕ → Type 0
HaveSettled rules n = (os : List Overlap) × AreOverlapsBetween rules 0 n os × All (IsSettled rules) os
