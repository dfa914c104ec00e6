-- A case whose sides are equal is joinable.
use Rattle.std.specs.Prelude.{◌≡◌, ℕ, ◌+◌, ◌-◌, ◌≤◌, ◌<◌, ◌^◌, ℤ, Bool, true, false, cond, List, [], ◌∷◌, ◌++◌, length}
use Rattle.std.specs.Prelude.{map, Some, slice_get, Result, Ok, Err, IfOk}
use Rattle.std.specs.Bool.{OnTrue}
use Rattle.std.specs.List.{All, filter}
use Rattle.std.specs.Result.{is_ok}
use mathlib.Core.Bool.{true≢false}
use Rattle.std.proofs.Common.{refl, sym, ap, subst, ◌∙◌, arith, inl, inr}
use Rattle.std.proofs.lemmas.Bool.{OnTrue_from}
use Rattle.std.proofs.lemmas.List.{map-append}
use Rattle.std.proofs.lemmas.List.Elements.{All-cons, All-nil}
use Rattle.chr_base.specs.declared.atom.Atom.{Atom}
use Rattle.chr_base.specs.declared.rule.Rule.{Rule}
use Rattle.chr_base.specs.FinBag.{◌⊖◌, IsWithin}
use Rattle.chr_base.specs.Rules.{Valuation, atom_at, atoms_at, guard_holds, heads_at}
use Rattle.chr_base.specs.Stores.{Store, store_of, count}
use Rattle.chr_base.proofs.Stores.{count_plus, count_minus, same_store, store_of-append}
use Rattle.chr_confluence.specs.Cases.{IsCase, case_store, side}
use Rattle.chr_confluence.specs.Lowering.{RulesLower}
use Rattle.chr_confluence.specs.Representatives.{assignment, guards_hold, left_at, right_at}
use Rattle.chr_confluence.specs.Unifiers.{Substitution}
use Rattle.chr_confluence.specs.laws.Peaks.{LeftSideIsStep, RightSideIsStep}
use Rattle.chr_confluence.specs.Sorts.{Sorts}
use Rattle.chr_confluence.specs.SortedCases.{class_sorts}
use Rattle.chr_confluence.specs.laws.SortedCases.{SortedAreCases}
use Rattle.chr_sorting.specs.FinestSorts.{AreFinest}
use Rattle.chr_sorting.specs.SortedCaseLists.{AreCombinations}
use Rattle.chr_overlaps.specs.declared.cases.TheConstants.{MAX_TYPES}
use Rattle.chr_overlaps.specs.declared.overlap.Overlap.{Overlap}
use Rattle.chr_overlaps.specs.CaseLists.{case_at}
use Rattle.chr_overlaps.specs.EqualSides.{HaveEqualSides}
use Rattle.chr_overlaps.specs.OverlapLists.{IsOverlapOf}
use Rattle.chr_overlaps.specs.UnifiedOverlaps.{AreRulesOf, HasUnified, IsSortedUnifiedAt}
use Rattle.chr_overlaps.specs.working.Unifiers.{classes_of}
use Rattle.chr_overlaps.proofs.HeadsAt.{guards_are}
use Rattle.chr_overlaps.proofs.UnifiedOverlaps.{unified_in}
use Rattle.chr_weights.specs.WeighedPrograms.{program_of, rules_in}
use Rattle.chr_weights.proofs.Ranks.{lowers_rank, rank_in}
use Rattle.chr_join.specs.Sides.{IsJoinable}
use Rattle.chr_join.specs.declared.coverage.Coverage.TheVariants.{Sorted}
use Rattle.chr_join.specs.working.Checking.{Joins}
use Rattle.chr_join.specs.working.Visits.{Setting, HaveCases, GoesOn}
use Rattle.chr_join.proofs.Visits.{cases_of, sorted_cases, are_sorted_cases, sorted_values}
use Rattle.chr_join.proofs.SideSteps.{joined_early}

counted_both : (xs ys : List Atom) (q : Atom) → count (store_of (xs ++ ys)) q ≡ count (store_of xs) q + count
    (store_of ys) q
counted_both xs ys q = ap (λ s. count s q) (store_of-append xs ys) ∙ count_plus (store_of xs) (store_of ys) q

removed_within : (r : Rule) (v : Valuation) (s : Store) (q : Atom) → IsWithin (store_of (heads_at v r)) s
    → count (store_of (atoms_at v r.removed.items)) q ≤ count s q
removed_within r v s q within =
    let heads = ap (λ xs. count (store_of xs) q) (map-append (atom_at v) r.kept.items r.removed.items) in
    let both = counted_both (atoms_at v r.kept.items) (atoms_at v r.removed.items) q in
    let less = within q in
    omega (arith, heads, both, less)

side_counted : (r : Rule) (v : Valuation) (s : Store) (q : Atom)
    → count (side r v s) q ≡ (count s q - count (store_of (atoms_at v r.removed.items)) q) + count
    (store_of (atoms_at v r.body.items)) q
side_counted r v s q =
    let sum = count_plus (s ⊖ store_of (atoms_at v r.removed.items)) (store_of (atoms_at v r.body.items)) q in
    let rest = count_minus s (store_of (atoms_at v r.removed.items)) q in
    omega (arith, sum, rest)

same_side : (r1 r2 : Rule) (v1 v2 : Valuation) (s : Store) → IsWithin (store_of (heads_at v1 r1)) s
    → IsWithin (store_of (heads_at v2 r2)) s
    → store_of (atoms_at v1 r1.body.items ++ atoms_at v2 r2.removed.items)
    ≡ store_of (atoms_at v2 r2.body.items ++ atoms_at v1 r1.removed.items)
    → side r1 v1 s ≡ side r2 v2 s
same_side r1 r2 v1 v2 s there1 there2 same = same_store _ _ (λ q. (
    let left = side_counted r1 v1 s q in
    let right = side_counted r2 v2 s q in
    let less1 = removed_within r1 v1 s q there1 in
    let less2 = removed_within r2 v2 s q there2 in
    let equal = ap (λ t. count t q) same in
    let sum1 = counted_both (atoms_at v1 r1.body.items) (atoms_at v2 r2.removed.items) q in
    let sum2 = counted_both (atoms_at v2 r2.body.items) (atoms_at v1 r1.removed.items) q in
    omega (arith, left, right, less1, less2, equal, sum1, sum2)))

pub equal_joins : LeftSideIsStep → RightSideIsStep → (rules : List Rule) (w : Atom → ℕ) → RulesLower w rules
    → (o : Overlap) (r1 r2 : Rule) (σ : Substitution) (zs : List ℤ) → IsOverlapOf rules o
    → slice_get rules (o.first - 1) ≡ Some r1 → slice_get rules (o.second - 1) ≡ Some r2
    → IsCase r1 r2 o.matching.items (left_at σ r1 r2 zs) (right_at σ r1 r2 zs) → HaveEqualSides r1 r2 σ
    → IsJoinable rules (case_at o r1 r2 σ zs)
equal_joins to_left to_right rules w lowers o r1 r2 σ zs h first second case equal =
    let m = o.matching.items in
    let v1 = left_at σ r1 r2 zs in
    let v2 = right_at σ r1 r2 zs in
    let s = case_store r1 r2 m v1 v2 in
    let left = to_left r1 r2 m v1 v2 case in
    let right = to_right r1 r2 m v1 v2 case in
    let a = h.2.0 in
    let b = h.2.1 in
    joined_early rules w lowers (case_at o r1 r2 σ zs) (side r1 v1 s) (side r2 v2 s)
    (same_side r1 r2 v1 v2 s left.there right.there (equal zs)) (
      record {
        rule = r1;
        numbered = omega (arith, a);
        named = first;
        instance = (v1, refl, left.guard);
        there =
            left.there;
      },
      (v1, refl, left),
    ) (
      record {
        rule = r2;
        numbered = omega (arith, b);
        named = second;
        instance = (v2, refl, right.guard);
        there =
            right.there;
      },
      (v2, refl, right),
    )

-- a visit at which both guards hold finds a case that joins
module _ (s : Setting) (zs : List ℤ) (h : IsOverlapOf (rules_in s.weighed) s.overlap)
    (has : HasUnified (rules_in s.weighed) s.overlap s.unified) where
  guards_at : (b : Bool) → b ≡ guard_holds (assignment s.unified.free.items zs) s.unified.guards.items → (r1 r2 : Rule)
      → AreRulesOf (rules_in s.weighed) s.overlap r1 r2 → guards_hold (classes_of s.unified) r1 r2 zs ≡ b
  guards_at b is r1 r2 are = sym (is ∙ guards_are r1 r2 s.unified zs
      (unified_in (rules_in s.weighed) s.overlap r1 r2 s.unified are has))

  pub passes_none : (n : ℕ) → false ≡ guard_holds (assignment s.unified.free.items zs) s.unified.guards.items
      → GoesOn s n zs n
  passes_none n is r1 r2 are = inl (guards_at false is r1 r2 are, refl)

  pub passes_one : LeftSideIsStep → RightSideIsStep → HaveCases s
      → ((r1 r2 : Rule) → AreRulesOf (rules_in s.weighed) s.overlap r1 r2 → HaveEqualSides r1 r2 (classes_of s.unified))
      → (n m : ℕ) → true ≡ guard_holds (assignment s.unified.free.items zs) s.unified.guards.items
      → (n + 1 < 2 ^ 64 → m ≡ n + 1) → GoesOn s n zs m
  passes_one to_left to_right cases equal n m is more r1 r2 are =
      let holds = guards_at true is r1 r2 are in
      let p = program_of s.weighed in
      inr (
        holds,
        equal_joins to_left to_right (rules_in s.weighed) (rank_in p)
            (lowers_rank p s.weighed.lowers) s.overlap r1 r2 (classes_of s.unified) zs h are.0 are.1
            (cases r1 r2 are zs holds) (equal r1 r2 are),
        more,
      )

-- all sorted cases of the overlap join
equal_all : LeftSideIsStep → RightSideIsStep → (s : Setting) (r1 r2 : Rule)
    (are : AreRulesOf (rules_in s.weighed) s.overlap r1 r2) → IsOverlapOf (rules_in s.weighed) s.overlap → HaveCases s
    → HaveEqualSides r1 r2 (classes_of s.unified)
    → (zss : List (List ℤ)) → All (IsJoinable (rules_in s.weighed)) (cases_of s r1 r2 are zss)
equal_all to_left to_right s r1 r2 are h cases equal [] = All-nil (IsJoinable (rules_in s.weighed))
equal_all to_left to_right s r1 r2 are h cases equal (zs ∷ zss) = by (guards_hold (classes_of s.unified) r1 r2 zs) refl
    (equal_all to_left to_right s r1 r2 are h cases equal zss)
  where
    same : (b : Bool) → guards_hold (classes_of s.unified) r1 r2 zs ≡ b → cases_of s r1 r2 are (zs ∷ zss)
        ≡ map (case_at s.overlap r1 r2 (classes_of s.unified))
        (cond b (zs ∷ filter (guards_hold (classes_of s.unified) r1 r2) zss)
        (filter (guards_hold (classes_of s.unified) r1 r2) zss))
    same b e = ap (λ b. map (case_at s.overlap r1 r2 (classes_of s.unified))
        (cond b (zs ∷ filter (guards_hold (classes_of s.unified) r1 r2) zss)
        (filter (guards_hold (classes_of s.unified) r1 r2) zss))) e

    by : (b : Bool) → guards_hold (classes_of s.unified) r1 r2 zs ≡ b → All (IsJoinable (rules_in s.weighed))
        (cases_of s r1 r2 are zss) → All (IsJoinable (rules_in s.weighed)) (cases_of s r1 r2 are (zs ∷ zss))
    by true e ih =
        let p = program_of s.weighed in
        let one = equal_joins to_left to_right (rules_in s.weighed) (rank_in p)
        (lowers_rank p s.weighed.lowers) s.overlap r1 r2 (classes_of s.unified) zs h are.0 are.1
        (cases r1 r2 are zs e) equal in
        subst (All (IsJoinable (rules_in s.weighed))) (sym (same true e))
        (All-cons (IsJoinable (rules_in s.weighed)) _ _ one ih)
    by false e ih = subst (All (IsJoinable (rules_in s.weighed))) (sym (same false e)) ih

pub equal_sorted : SortedAreCases → LeftSideIsStep → RightSideIsStep
    → (sorts : Sorts) (s : Setting) (rs : List (List ℤ)) → IsOverlapOf (rules_in s.weighed) s.overlap
    → (u : IsSortedUnifiedAt (rules_in s.weighed) s.overlap s.unified)
    → AreFinest (rules_in s.weighed) sorts → AreCombinations sorts
    (class_sorts sorts (classes_of s.unified) u.rule1 u.rule2) rs → length rs ≤ MAX_TYPES
    → HaveEqualSides u.rule1 u.rule2 (classes_of s.unified)
    → Joins Sorted (rules_in s.weighed) s.overlap
equal_sorted law to_left to_right sorts s rs h u finest all within equal =
    let cases = sorted_cases sorts s rs u finest all within in (
      length cases,
      record {
        cases = cases;
        listed = are_sorted_cases sorts s rs u finest all within;
        joinable = equal_all to_left to_right s u.rule1 u.rule2 u.are_rules h (sorted_values law s h u) equal rs;
        number = refl;
      },
    )

-- what a result that is there gives
pub on_ok : {A E : Type 0} (r : Result A E) (b : Bool) (P : A → Type 0) (Q : Type 0) → b ≡ is_ok r → ((a : A) → P a → Q)
    → IfOk r P → OnTrue b Q
on_ok (Ok a) b P Q e f h = OnTrue_from b Q (λ _. f a h)
on_ok (Err x) b P Q e f h = OnTrue_from b Q (λ t. absurd (true≢false (sym t ∙ e)))
