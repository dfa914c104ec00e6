-- What visits of all order types have counted, and that it is the number of an overlap's cases.
use Rattle.std.specs.Prelude.{◌≡◌, ℕ, suc, ℤ, ◌+◌, ◌<◌, ◌^◌, Bool, true, false, cond, List, [], ◌∷◌, length, Result, Ok}
use Rattle.std.specs.Prelude.{Err, IfOk}
use Rattle.std.specs.List.{filter, All}
use Rattle.std.proofs.Common.{refl, sym, ap, subst, ◌∙◌, arith, inl, inr}
use Rattle.std.proofs.lemmas.List.{length-map}
use mathlib.Core.Bool.{true≢false}
use Rattle.chr_weights.specs.WeighedPrograms.{rules_in}
use Rattle.chr_base.specs.Rules.{guard_holds}
use Rattle.chr_types.specs.Representatives.{AreTypes}
use Rattle.chr_types.specs.OrderTypes.{MoreTypesThan}
use Rattle.chr_types.specs.Visits.{are_admitted, Visited}
use Rattle.chr_confluence.specs.Constants.{AreConstants}
use Rattle.chr_confluence.specs.Representatives.{assignment, guards_hold}
use Rattle.chr_overlaps.specs.declared.cases.Case.{Case}
use Rattle.chr_overlaps.specs.declared.cases.TheConstants.{MAX_TYPES}
use Rattle.chr_overlaps.specs.declared.unify.Unified.{Unified}
use Rattle.chr_overlaps.specs.CaseLists.{case_at, AreCases}
use Rattle.chr_overlaps.specs.UnifiedOverlaps.{IsUnifiedAt}
use Rattle.chr_overlaps.specs.working.Beginnings.{all_may_hold}
use Rattle.chr_overlaps.specs.working.Unifiers.{classes_of}
use Rattle.chr_overlaps.proofs.Beginnings.{admitted, filter_within}
use Rattle.chr_overlaps.proofs.HeadsAt.{guards_are}
use Rattle.chr_join.specs.declared.counting.Counter.{Counter}
use Rattle.chr_join.specs.declared.coverage.Coverage.TheVariants.{Joint}
use Rattle.chr_join.specs.Sides.{IsJoinable}
use Rattle.chr_join.specs.Verdicts.{HasJoinableCasesBy}
use Rattle.chr_join.specs.working.Counting.{CountsValues, holds_at, IsCountOf}
use Rattle.chr_join.specs.working.Visits.{Setting}
use Rattle.chr_join.proofs.Verdicts.{filter_few}
use Rattle.chr_join.proofs.Visits.{few_types, joint_cases, are_joint_cases}

-- ---- what was counted

module _ (u : Unified) where
  held : (v w : Counter) (zs : List ℤ) (stops : Bool) → v.unified.now ≡ u → CountsValues v zs stops w → holds_at u zs
      ≡ true → v.counted + 1 < 2 ^ 64 → w.counted ≡ v.counted + 1
  held v w zs stops same h = subst (λ x. holds_at x zs ≡ true → v.counted + 1 < 2 ^ 64 → w.counted ≡ v.counted + 1) same
      h.holds

  failed : (v w : Counter) (zs : List ℤ) (stops : Bool) → v.unified.now ≡ u → CountsValues v zs stops w → holds_at u zs
      ≡ false → w.counted ≡ v.counted
  failed v w zs stops same h = subst (λ x. holds_at x zs ≡ false → w.counted ≡ v.counted) same h.fails

  counted : (zss : List (List ℤ)) (v w : Counter) (stopped : Bool) → v.unified.now ≡ u
      → Visited CountsValues v zss stopped w → v.counted + length (filter (holds_at u) zss) < 2 ^ 64
      → w.counted ≡ v.counted + length (filter (holds_at u) zss)
  counted [] v w stopped same h l = let e = ap (λ (x : Counter). x.counted) h.1 in omega (arith, e)
  counted (zs ∷ zss) v w stopped same (inl h) l = absurd (true≢false h.1.goes_on)
  counted (zs ∷ zss) v w stopped same (inr h) l =
      by (holds_at u zs) refl (held v h.0 zs false same h.1) (failed v h.0 zs false same h.1)
      (counted zss h.0 w stopped (h.1.same ∙ same) h.2)
    where
      by : (b : Bool) → holds_at u zs ≡ b → (holds_at u zs ≡ true → v.counted + 1 < 2 ^ 64 → h.0.counted
          ≡ v.counted + 1) → (holds_at u zs ≡ false → h.0.counted ≡ v.counted)
          → (h.0.counted + length (filter (holds_at u) zss) < 2 ^ 64 → w.counted
          ≡ h.0.counted + length (filter (holds_at u) zss)) → w.counted
          ≡ v.counted + length (filter (holds_at u) (zs ∷ zss))
      by true e one none more =
          let f : length (filter (holds_at u) (zs ∷ zss)) ≡ suc (length (filter (holds_at u) zss)) =
          ap (λ b. length (cond b (zs ∷ filter (holds_at u) zss) (filter (holds_at u) zss))) e in
          let a = one e (omega (arith, l, f)) in
          let g = more (omega (arith, l, f, a)) in
          omega (arith, f, a, g)
      by false e one none more =
          let f : length (filter (holds_at u) (zs ∷ zss)) ≡ length (filter (holds_at u) zss) =
          ap (λ b. length (cond b (zs ∷ filter (holds_at u) zss) (filter (holds_at u) zss))) e in
          let a = none e in
          let g = more (omega (arith, l, f, a)) in
          omega (arith, f, a, g)

  -- nothing is lost that a walk leaves at a beginning, and few types have a count of 64 bits
  pub count_is : (constants : List ℤ) (rs : List (List ℤ)) → AreTypes (length u.free.items) constants rs
      → ¬ MoreTypesThan MAX_TYPES (length u.free.items) constants
      → (v w : Counter) (stopped : Bool) → v.unified.now ≡ u → v.counted ≡ 0
      → Visited CountsValues v (filter (are_admitted (all_may_hold u.free.items u.guards.items) []) rs) stopped w
      → IsCountOf constants u w.counted
  count_is constants rs types none v w stopped same start h =
      let all : filter (holds_at u) (filter (are_admitted (all_may_hold u.free.items u.guards.items) []) rs)
      ≡ filter (holds_at u) rs =
      filter_within (holds_at u) (are_admitted (all_may_hold u.free.items u.guards.items) [])
      (λ zs. admitted u.free.items u.guards.items [] zs) rs in
      let number = ap length all in
      let passed = filter_few (holds_at u) rs in
      let few = few_types (length u.free.items) constants rs types none in
      let count = counted (filter (are_admitted (all_may_hold u.free.items u.guards.items) []) rs) v w stopped same h
      (omega (arith, number, passed, few, start)) in
      (rs, types, omega (arith, count, number, start))

-- ---- what was remembered

-- guards that are the same comparisons of the same classes have one count
pub same_count : (constants : List ℤ) (u w : Unified) (n : ℕ) → u.free.items ≡ w.free.items → u.guards.items
    ≡ w.guards.items → IsCountOf constants u n → IsCountOf constants w n
same_count constants u w n free guards h = (
  h.0,
  subst (λ fs. AreTypes (length fs) constants h.0) free h.1,
  h.2 ∙ (λ i. length (filter (λ zs. guard_holds (assignment (free i) zs) (guards i)) h.0)),
)

-- ---- an overlap of rules that are confluent has as many joinable cases as were counted
pub overlap_counted : (s : Setting) (constants : List ℤ) (n : ℕ) → IsUnifiedAt (rules_in s.weighed) s.overlap s.unified
    → AreConstants (rules_in s.weighed) constants → ¬ MoreTypesThan MAX_TYPES (length s.unified.free.items) constants
    → ((cs : List Case) → AreCases (rules_in s.weighed) s.overlap cs → All (IsJoinable (rules_in s.weighed)) cs)
    → IsCountOf constants s.unified n → HasJoinableCasesBy Joint (rules_in s.weighed) s.overlap n
overlap_counted s constants n u are none join h =
    let rs = h.0 in
    let cases = joint_cases s constants rs u are h.1 none in
    let listed = are_joint_cases s constants rs u are h.1 none in
    let guards = guards_hold (classes_of s.unified) u.rule1 u.rule2 in
    record {
      cases = cases;
      listed = listed;
      joinable = join cases listed;
      number = h.2 ∙ (λ i. length (filter (λ zs. guards_are u.rule1 u.rule2 s.unified zs u.unified i) rs))
          ∙ sym (length-map (filter guards rs) (case_at s.overlap u.rule1 u.rule2 (classes_of s.unified)));
    }

pub cases_counted : {E : Type 0} (s : Setting) (constants : List ℤ) (result : Result ℕ E)
    → IsUnifiedAt (rules_in s.weighed) s.overlap s.unified → AreConstants (rules_in s.weighed) constants
    → ¬ MoreTypesThan MAX_TYPES (length s.unified.free.items) constants
    → ((cs : List Case) → AreCases (rules_in s.weighed) s.overlap cs → All (IsJoinable (rules_in s.weighed)) cs)
    → IfOk result (IsCountOf constants s.unified) → IfOk result
    (HasJoinableCasesBy Joint (rules_in s.weighed) s.overlap)
cases_counted s constants (Ok n) u are none join h = overlap_counted s constants n u are none join h
cases_counted s constants (Err e) u are none join h = tt
