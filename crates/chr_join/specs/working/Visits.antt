-- What a visit of a list of values does: the case there, if there is one, is checked.
use Rattle.std.specs.Prelude.{◌≡◌, ℕ, ℤ, ◌+◌, ◌<◌, ◌^◌, ◌⊎◌, Bool, true, false, List, Option, Some, ⊤}
use Rattle.std.specs.Bool.{OnTrue}
use Rattle.chr_base.specs.declared.rule.Rule.{Rule}
use Rattle.chr_weights.specs.declared.weighed.Weighed.{Weighed}
use Rattle.chr_weights.specs.WeighedPrograms.{rules_in}
use Rattle.chr_confluence.specs.Cases.{IsCase}
use Rattle.chr_confluence.specs.Representatives.{left_at, right_at, guards_hold}
use Rattle.chr_overlaps.specs.declared.overlap.Overlap.{Overlap}
use Rattle.chr_overlaps.specs.declared.unify.Unified.{Unified}
use Rattle.chr_overlaps.specs.CaseLists.{case_at}
use Rattle.chr_overlaps.specs.EqualSides.{HaveEqualSides}
use Rattle.chr_overlaps.specs.OverlapLists.{IsOverlapOf}
use Rattle.chr_overlaps.specs.UnifiedOverlaps.{AreRulesOf, HasUnified}
use Rattle.chr_overlaps.specs.working.Unifiers.{classes_of}
use Rattle.chr_join.specs.declared.checker.Checker.{Checker}
use Rattle.chr_join.specs.declared.refused.Cause.{Cause}
use Rattle.chr_join.specs.declared.refused.Cause.TheVariants as cause
use Rattle.chr_join.specs.declared.refused.Failure.{Failure}
use Rattle.chr_join.specs.Explanations.{Explains}
use Rattle.chr_join.specs.Sides.{IsJoinable}
use Rattle.chr_join.specs.working.Ends.{AreEnds}

-- what all visits of an overlap have in common
pub record Setting : Type 0 where
  pub weighed : Weighed
  pub overlap : Overlap
  pub unified : Unified

abbrev pub setting_of : Checker → Setting
setting_of v = record { weighed = v.weighed.now; overlap = v.overlap.now; unified = v.unified.now }

-- values at which both guards hold make a case of the overlap's rules
abbrev pub HaveCases : Setting → Type 0
HaveCases s =
    (r1 r2 : Rule) → AreRulesOf (rules_in s.weighed) s.overlap r1 r2 → (zs : List ℤ)
    → guards_hold (classes_of s.unified) r1 r2 zs ≡ true
    → IsCase r1 r2 s.overlap.matching.items (left_at (classes_of s.unified) r1 r2 zs)
    (right_at (classes_of s.unified) r1 r2 zs)

-- where the checker takes both sides of all cases for equal, they are
abbrev pub TellsEqualSides : Checker → Type 0
TellsEqualSides v =
    (r1 r2 : Rule) → AreRulesOf (rules_in v.weighed.now) v.overlap.now r1 r2
    → OnTrue v.equal (HaveEqualSides r1 r2 (classes_of v.unified.now))

-- what a visit takes for granted
pub record MayCheck (v : Checker) : Type 0 where
  pub overlap : IsOverlapOf (rules_in v.weighed.now) v.overlap.now
  pub unified : HasUnified (rules_in v.weighed.now) v.overlap.now v.unified.now
  pub cases : HaveCases (setting_of v)
  pub equal : TellsEqualSides v
  pub ends : AreEnds (rules_in v.weighed.now) v.ends.entries.items

-- there is no case at these values, or one that is joinable, and is counted
abbrev pub GoesOn : Setting → ℕ → List ℤ → ℕ → Type 0
GoesOn s n zs m =
    (r1 r2 : Rule) → AreRulesOf (rules_in s.weighed) s.overlap r1 r2
    → ((guards_hold (classes_of s.unified) r1 r2 zs ≡ false) × (m ≡ n))
    ⊎ ((guards_hold (classes_of s.unified) r1 r2 zs ≡ true)
    × IsJoinable (rules_in s.weighed) (case_at s.overlap r1 r2 (classes_of s.unified) zs)
    × (n + 1 < 2 ^ 64 → m ≡ n + 1))

-- there is a case at these values that is not joinable, and it is explained
abbrev pub FindsFailing : Setting → List ℤ → Option Failure → Type 0
FindsFailing s zs failing =
    (r1 r2 : Rule) → AreRulesOf (rules_in s.weighed) s.overlap r1 r2
    → (guards_hold (classes_of s.unified) r1 r2 zs ≡ true)
    × (f : Failure) × (failing ≡ Some f) × (f.overlap ≡ s.overlap)
    × Explains (rules_in s.weighed) (case_at s.overlap r1 r2 (classes_of s.unified) zs) f

pub record Checks (v : Checker) (zs : List ℤ) (stops : Bool) (w : Checker) : Type 0 where
  pub same : setting_of w ≡ setting_of v
  pub goes_on : stops ≡ false → GoesOn (setting_of v) v.passed zs w.passed
  pub finds : stops ≡ true → FindsFailing (setting_of v) zs w.failing

-- the cause that a walk tells which was stopped is the case that it has found
abbrev pub HasTold : Option Failure → Bool → Cause → Type 0
HasTold failing stopped (cause.Fails f) = (stopped ≡ true) × (failing ≡ Some f)
HasTold failing stopped (cause.TooManyTypes t) = ⊥
HasTold failing stopped cause.Memory = ⊤
