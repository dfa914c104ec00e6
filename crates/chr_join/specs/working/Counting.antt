-- Joint cases of confluent rules, which are counted and not looked at.
use Rattle.std.specs.Prelude.{◌≡◌, ℕ, ℤ, ◌+◌, ◌<◌, ◌^◌, Bool, true, false, List, length, Option, IfSome}
use Rattle.std.specs.List.{All, filter}
use Rattle.chr_base.specs.declared.atom.Atom.{Atom}
use Rattle.chr_base.specs.declared.rule.Rule.{Rule}
use Rattle.chr_base.specs.Rules.{guard_holds}
use Rattle.chr_types.specs.OrderTypes.{MoreTypesThan}
use Rattle.chr_types.specs.Representatives.{AreTypes}
use Rattle.chr_confluence.specs.Confluence.{Confluent}
use Rattle.chr_confluence.specs.Lowering.{RulesLower}
use Rattle.chr_confluence.specs.Representatives.{assignment}
use Rattle.chr_overlaps.specs.declared.overlap.Overlap.{Overlap}
use Rattle.chr_overlaps.specs.declared.cases.Case.{Case}
use Rattle.chr_overlaps.specs.declared.cases.TheConstants.{MAX_TYPES}
use Rattle.chr_overlaps.specs.declared.unify.Unified.{Unified}
use Rattle.chr_overlaps.specs.CaseLists.{AreCases}
use Rattle.chr_overlaps.specs.OverlapLists.{IsOverlapOf}
use Rattle.chr_join.specs.declared.counting.Counter.{Counter}
use Rattle.chr_join.specs.declared.counting.Count.{Count}
use Rattle.chr_join.specs.Sides.{IsJoinable}

-- both guards hold at these values of the free classes
abbrev pub holds_at : Unified → List ℤ → Bool
holds_at u zs = guard_holds (assignment u.free.items zs) u.guards.items

-- a visit counts the values where both guards hold at them, and doesn't stop
pub record CountsValues (v : Counter) (zs : List ℤ) (stops : Bool) (w : Counter) : Type 0 where
  pub same : w.unified.now ≡ v.unified.now
  pub goes_on : stops ≡ false
  pub holds : holds_at v.unified.now zs ≡ true → v.counted + 1 < 2 ^ 64 → w.counted ≡ v.counted + 1
  pub fails : holds_at v.unified.now zs ≡ false → w.counted ≡ v.counted

-- at n of the order types of the free classes both guards hold
abbrev pub IsCountOf : List ℤ → Unified → ℕ → Type 0
IsCountOf constants u n =
    (rs : List (List ℤ)) × AreTypes (length u.free.items) constants rs × (n ≡ length (filter (holds_at u) rs))

abbrev pub IsCounted : List ℤ → Count → Type 0
IsCounted constants k = IsCountOf constants k.unified k.number

-- each number is the count of its guards
abbrev pub AreCounts : List ℤ → List Count → Type 0
AreCounts constants ks = All (IsCounted constants) ks

-- where k is a number, it is the count of these guards
abbrev pub IsCountIfThere : List ℤ → Unified → Option ℕ → Type 0
IsCountIfThere constants u k = IfSome k (IsCountOf constants u)

-- the free classes have no more order types than an overlap may have
abbrev pub HasFewTypes : List ℤ → Unified → Type 0
HasFewTypes constants u = ¬ MoreTypesThan MAX_TYPES (length u.free.items) constants

-- each joint case of confluent rules is joinable
abbrev pub JointCasesJoin : Type 0
JointCasesJoin =
    (rules : List Rule) (w : Atom → ℕ) → RulesLower w rules → Confluent rules
    → (o : Overlap) → IsOverlapOf rules o → (cs : List Case) → AreCases rules o cs → All (IsJoinable rules) cs
