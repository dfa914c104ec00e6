-- What visits of all representatives of an overlap have found: all its cases are joinable, or the first that is not.
use Rattle.std.specs.Prelude.{◌≡◌, ℕ, ℤ, ◌+◌, ◌<◌, ◌≤◌, ◌^◌, ◌⊎◌, Bool, true, false, cond, nat_lt, List, [], ◌∷◌, ◌++◌}
use Rattle.std.specs.Prelude.{length, map, Option, Some, None, Result, Ok, Err, IfOk, IfErr}
use Rattle.std.specs.List.{All, filter}
use Rattle.std.proofs.Common.{refl, sym, ap, subst, ◌∙◌, arith, inl, inr}
use Rattle.std.proofs.lemmas.List.Elements.{All-cons, All-nil}
use mathlib.Core.Bool.{true≢false}
use Rattle.chr_base.specs.declared.rule.Rule.{Rule}
use Rattle.chr_weights.specs.WeighedPrograms.{rules_in}
use Rattle.chr_types.specs.Visits.{are_admitted, Visited}
use Rattle.chr_overlaps.specs.working.Beginnings.{all_may_hold}
use Rattle.chr_overlaps.proofs.Beginnings.{guards_admitted, filter_within}
use Rattle.chr_confluence.specs.Overlaps.{equations_of}
use Rattle.chr_confluence.specs.Representatives.{guards_hold}
use Rattle.chr_confluence.specs.Unifiers.{IsMostGeneralUnifier}
use Rattle.chr_confluence.specs.laws.ListedCases.{ListedAreCases}
use Rattle.chr_confluence.specs.laws.Peaks.{LeftSideIsStep, RightSideIsStep}
use Rattle.chr_confluence.specs.Sorts.{Sorts}
use Rattle.chr_confluence.specs.SortedCases.{all_equations, class_sorts}
use Rattle.chr_confluence.specs.laws.SortedCases.{SortedAreCases}
use Rattle.chr_overlaps.specs.declared.overlap.Overlap.{Overlap}
use Rattle.chr_overlaps.specs.declared.unify.Unified.{Unified}
use Rattle.chr_sorting.specs.FinestSorts.{AreFinest}
use Rattle.chr_sorting.specs.SortedCaseLists.{AreCombinations, MoreCombinationsThan}
use Rattle.chr_overlaps.specs.declared.cases.Case.{Case}
use Rattle.chr_types.specs.OrderTypes.{MoreTypesThan}
use Rattle.chr_types.specs.Representatives.{AreTypes}
use Rattle.chr_types.proofs.BesideFirst.{many_classes}
use Rattle.chr_types.proofs.TooMany.{more_types}
use Rattle.chr_confluence.specs.Constants.{AreConstants}
use Rattle.chr_overlaps.specs.declared.cases.TheConstants.{MAX_TYPES}
use Rattle.chr_overlaps.specs.CaseLists.{case_at, AreCases}
use Rattle.chr_overlaps.proofs.OneList.{listed_cases}
use Rattle.chr_join.specs.declared.refused.Cause.{Cause}
use Rattle.chr_join.specs.declared.refused.Cause.TheVariants.{Fails, TooManyTypes, Memory}
use Rattle.chr_join.specs.declared.coverage.Coverage.{Coverage}
use Rattle.chr_join.specs.declared.coverage.Coverage.TheVariants.{Sorted}
use Rattle.chr_join.specs.Coverages.{AreCasesBy, IsTooManyBy}
use Rattle.chr_join.specs.Verdicts.{HasJoinableCasesBy, IsFirstBy, IsFirstCaseBy}
use Rattle.chr_join.specs.working.Checking.{RefusesAt}
use Rattle.std.proofs.lemmas.Bool.Decides.{nat_tests}
use Rattle.chr_overlaps.specs.OverlapLists.{IsOverlapOf}
use Rattle.chr_overlaps.specs.UnifiedOverlaps.{AreRulesOf, IsUnifiedAt, IsSortedUnifiedAt, HasNoSortedUnifier}
use Rattle.chr_overlaps.specs.UnifiedOverlaps.{HasUnified}
use Rattle.chr_overlaps.proofs.UnifiedOverlaps.{rules_once}
use Rattle.chr_rewrite.specs.Derivations.{IsApplicable}
use Rattle.std.proofs.lemmas.Option.{same_Some}
use Rattle.chr_join.proofs.CaseSteps.{matching_at, steps_at}
use Rattle.chr_join.proofs.Verdicts.{listed_few}
use Rattle.chr_overlaps.specs.working.Unifiers.{classes_of}
use Rattle.chr_join.specs.declared.checker.Checker.{Checker}
use Rattle.chr_join.specs.declared.refused.Failure.{Failure}
use Rattle.chr_join.specs.Explanations.{Explains}
use Rattle.chr_join.specs.Sides.{IsJoinable}
use Rattle.chr_join.specs.working.Ends.{AreEnds}
use Rattle.chr_join.specs.working.Visits.{Setting, setting_of, MayCheck, HaveCases, GoesOn, FindsFailing, HasTold}
use Rattle.chr_join.specs.working.Visits.{Checks, TellsEqualSides}

module _ (s : Setting) (r1 r2 : Rule) (are : AreRulesOf (rules_in s.weighed) s.overlap r1 r2) where
  abbrev guards : List ℤ → Bool
  guards = guards_hold (classes_of s.unified) r1 r2

  abbrev case_of : List ℤ → Case
  case_of = case_at s.overlap r1 r2 (classes_of s.unified)

  abbrev pub cases_of : List (List ℤ) → List Case
  cases_of zss = map case_of (filter guards zss)

  -- all are joinable, and their number is added to n
  pub record HavePassed (n : ℕ) (zss : List (List ℤ)) (m : ℕ) : Type 0 where
    pub joinable : All (IsJoinable (rules_in s.weighed)) (cases_of zss)
    pub number : n + length (cases_of zss) < 2 ^ 64 → m ≡ n + length (cases_of zss)

  passed_one : (n k m : ℕ) (zs : List ℤ) (zss : List (List ℤ)) → GoesOn s n zs k → HavePassed k zss m
      → HavePassed n (zs ∷ zss) m
  passed_one n k m zs zss here more = by (here r1 r2 are)
    where
      by : ((guards zs ≡ false) × (k ≡ n)) ⊎ ((guards zs ≡ true) × IsJoinable (rules_in s.weighed) (case_of zs)
          × (n + 1 < 2 ^ 64 → k ≡ n + 1)) → HavePassed n (zs ∷ zss) m
      by (inl none) =
          let same : cases_of (zs ∷ zss) ≡ cases_of zss =
          ap (λ b. map case_of (cond b (zs ∷ filter guards zss) (filter guards zss))) none.0 in
          record {
            joinable = subst (All (IsJoinable (rules_in s.weighed))) (sym same) more.joinable;
            number = λ l. (let e = none.1 in let f = ap length same in let g = more.number (omega (arith, l, e, f)) in
                omega (arith, e, f, g));
          }
      by (inr one) =
          let same : cases_of (zs ∷ zss) ≡ case_of zs ∷ cases_of zss =
          ap (λ b. map case_of (cond b (zs ∷ filter guards zss) (filter guards zss))) one.0 in
          record {
            joinable = subst (All (IsJoinable (rules_in s.weighed))) (sym same)
                (All-cons (IsJoinable (rules_in s.weighed)) (case_of zs) (cases_of zss) one.1 more.joinable);
            number = λ l. (let f = ap length same in let e = one.2 (omega (arith, l, f)) in let g =
                more.number (omega (arith, l, e, f)) in omega (arith, e, f, g));
          }

  pub all_passed : (zss : List (List ℤ)) (v w : Checker) → setting_of v ≡ s → Visited Checks v zss false w
      → HavePassed v.passed zss w.passed
  all_passed [] v w same h = record {
    joinable = All-nil (IsJoinable (rules_in s.weighed));
    number =
        λ _. (let e = ap (λ (x : Checker). x.passed) h.1 in omega (arith, e));
  }
  all_passed (zs ∷ zss) v w same (inl h) = absurd (true≢false (sym h.0))
  all_passed (zs ∷ zss) v w same (inr h) =
      let u : Checker = h.0 in
      let goes_on : GoesOn s v.passed zs u.passed = subst (λ x. GoesOn x v.passed zs u.passed) same
      (h.1.goes_on refl) in
      passed_one v.passed u.passed w.passed zs zss goes_on (all_passed zss u w (h.1.same ∙ same) h.2)

  -- the first that is not joinable is explained
  pub record IsFound (cs : List Case) (failing : Option Failure) : Type 0 where
    pub before : List Case
    pub case : Case
    pub after : List Case
    pub parts : cs ≡ before ++ case ∷ after
    pub joinable : All (IsJoinable (rules_in s.weighed)) before
    pub failure : Failure
    pub found : failing ≡ Some failure
    pub overlap : failure.overlap ≡ s.overlap
    pub explains : Explains (rules_in s.weighed) case failure

  found_here : (zs : List ℤ) (zss : List (List ℤ)) (failing : Option Failure) → FindsFailing s zs failing
      → IsFound (cases_of (zs ∷ zss)) failing
  found_here zs zss failing h =
      let is = h r1 r2 are in
      record {
        before = [];
        case = case_of zs;
        after = cases_of zss;
        parts = ap (λ b. map case_of (cond b (zs ∷ filter guards zss) (filter guards zss))) is.0;
        joinable = All-nil (IsJoinable (rules_in s.weighed));
        failure = is.1;
        found = is.2;
        overlap = is.3;
        explains = is.4;
      }

  found_later : (n m : ℕ) (zs : List ℤ) (zss : List (List ℤ)) (failing : Option Failure) → GoesOn s n zs m
      → IsFound (cases_of zss) failing → IsFound (cases_of (zs ∷ zss)) failing
  found_later n m zs zss failing here more = by (here r1 r2 are)
    where
      by : ((guards zs ≡ false) × (m ≡ n)) ⊎ ((guards zs ≡ true) × IsJoinable (rules_in s.weighed) (case_of zs)
          × (n + 1 < 2 ^ 64 → m ≡ n + 1)) → IsFound (cases_of (zs ∷ zss)) failing
      by (inl none) = subst (λ cs. IsFound cs failing)
          (sym (ap (λ b. map case_of (cond b (zs ∷ filter guards zss) (filter guards zss))) none.0)) more
      by (inr one) = record {
        before = case_of zs ∷ more.before;
        case = more.case;
        after = more.after;
        parts = ap (λ b. map case_of (cond b (zs ∷ filter guards zss) (filter guards zss))) one.0
            ∙ ap (λ cs. case_of zs ∷ cs) more.parts;
        joinable = All-cons (IsJoinable (rules_in s.weighed)) (case_of zs) more.before one.1 more.joinable;
        failure = more.failure;
        found = more.found;
        overlap = more.overlap;
        explains = more.explains;
      }

  pub first_found : (zss : List (List ℤ)) (v w : Checker) → setting_of v ≡ s → Visited Checks v zss true w
      → IsFound (cases_of zss) w.failing
  first_found [] v w same h = absurd (true≢false h.0)
  first_found (zs ∷ zss) v w same (inl h) = found_here zs zss w.failing
      (subst (λ x. FindsFailing x zs w.failing) same (h.1.finds refl))
  first_found (zs ∷ zss) v w same (inr h) =
      let u : Checker = h.0 in
      found_later v.passed u.passed zs zss w.failing (subst (λ x. GoesOn x v.passed zs u.passed) same
      (h.1.goes_on refl)) (first_found zss u w (h.1.same ∙ same) h.2)

-- ---- one visit

none_there : (found : Option Case) (b : Bool) (x : Case) → found ≡ cond b (Some x) None
    → ((y : Case) → found ≡ Some y → ⊥) → b ≡ false
none_there found true x e none = absurd (none x e)
none_there found false x e none = refl

pub no_case : (s : Setting) (zs : List ℤ) (n : ℕ) (found : Option Case) → ((y : Case) → found ≡ Some y → ⊥)
    → ((r1 r2 : Rule) → AreRulesOf (rules_in s.weighed) s.overlap r1 r2
    → found ≡ cond (guards_hold (classes_of s.unified) r1 r2 zs)
    (Some (case_at s.overlap r1 r2 (classes_of s.unified) zs)) None) → GoesOn s n zs n
no_case s zs n found none is r1 r2 are = inl (none_there found _ _ (is r1 r2 are) none, refl)

some_there : (y x : Case) (b : Bool) → Some y ≡ cond b (Some x) None → (b ≡ true) × (y ≡ x)
some_there y x true e = (refl, same_Some y x e)
some_there y x false e = absurd cc

-- the case that a visit has found, under the names of the two rules
abbrev pub IsCaseAt : Setting → List ℤ → Case → Type 0
IsCaseAt s zs c =
    (r1 r2 : Rule) → AreRulesOf (rules_in s.weighed) s.overlap r1 r2
    → Some c ≡ cond (guards_hold (classes_of s.unified) r1 r2 zs)
    (Some (case_at s.overlap r1 r2 (classes_of s.unified) zs)) None

pub applicable : LeftSideIsStep → RightSideIsStep → (s : Setting) (zs : List ℤ) (c : Case)
    → IsOverlapOf (rules_in s.weighed) s.overlap → HasUnified (rules_in s.weighed) s.overlap s.unified → HaveCases s
    → IsCaseAt s zs c
    → IsApplicable (rules_in s.weighed) c.store c.left × IsApplicable (rules_in s.weighed) c.store c.right
applicable left right s zs c of u cases is =
    let at = some_there c _ _ (is u.rule1 u.rule2 u.are_rules) in
    subst (λ x. IsApplicable (rules_in s.weighed) x.store x.left × IsApplicable (rules_in s.weighed) x.store x.right)
    (sym at.1)
    (steps_at left right (rules_in s.weighed) s.overlap u.rule1 u.rule2 (classes_of s.unified) zs of u.are_rules.0
    u.are_rules.1 (cases u.rule1 u.rule2 u.are_rules zs at.0))

pub joins : (s : Setting) (zs : List ℤ) (c : Case) (n m : ℕ) → IsCaseAt s zs c → IsJoinable (rules_in s.weighed) c
    → (n + 1 < 2 ^ 64 → m ≡ n + 1) → GoesOn s n zs m
joins s zs c n m is h e r1 r2 are =
    let at = some_there c _ _ (is r1 r2 are) in
    inr (at.0, subst (IsJoinable (rules_in s.weighed)) at.1 h, e)

pub fails : (s : Setting) (zs : List ℤ) (c : Case) (f : Failure) (failing : Option Failure) → IsCaseAt s zs c → failing
    ≡ Some f → f.overlap ≡ s.overlap → Explains (rules_in s.weighed) c f → FindsFailing s zs failing
fails s zs c f failing is e o h r1 r2 are =
    let at = some_there c _ _ (is r1 r2 are) in
    (at.0, f, e, o, subst (λ x. Explains (rules_in s.weighed) x f) at.1 h)

-- a checker of this setting may visit
pub may_check : (v : Checker) (s : Setting) → setting_of v ≡ s → IsOverlapOf (rules_in s.weighed) s.overlap
    → HasUnified (rules_in s.weighed) s.overlap s.unified → HaveCases s
    → TellsEqualSides v → ((rules : List Rule) → AreEnds rules v.ends.entries.items) → MayCheck v
may_check v s same of u cases equal ends = record {
  overlap = subst (λ (t : Setting). IsOverlapOf (rules_in t.weighed) t.overlap) (sym same) of;
  unified = subst (λ (t : Setting). HasUnified (rules_in t.weighed) t.overlap t.unified) (sym same) u;
  cases = subst HaveCases (sym same) cases;
  equal = equal;
  ends = ends (rules_in v.weighed.now);
}

-- ---- an overlap's verdict

few_classes : (n : ℕ) (constants : List ℤ) → ¬ MoreTypesThan MAX_TYPES n constants → n ≤ 64
few_classes n constants none = elim (nat_lt 64 n) as (λ b. nat_lt 64 n ≡ b → n ≤ 64) [
  | true ↦ λ e. absurd (none (many_classes MAX_TYPES n constants (omega arith) (grind (arith, nat_tests))))
  | false ↦ λ e. grind (arith, nat_tests)
] refl

pub classes_fit : (n m : ℕ) (constants : List ℤ) → n ≡ m → ¬ MoreTypesThan MAX_TYPES m constants → n < 2 ^ 63
classes_fit n m constants e none = let l = few_classes m constants none in omega (arith, e, l)

pub few_types : (n : ℕ) (constants : List ℤ) (rs : List (List ℤ)) → AreTypes n constants rs
    → ¬ MoreTypesThan MAX_TYPES n constants → length rs ≤ MAX_TYPES
few_types n constants rs are none = elim (nat_lt MAX_TYPES (length rs)) as (λ b. nat_lt MAX_TYPES (length rs) ≡ b
    → length rs ≤ MAX_TYPES) [
      | true ↦ λ e. absurd (none (more_types MAX_TYPES n constants rs are (grind (arith, nat_tests))))
      | false ↦ λ e. grind (arith, nat_tests)
    ] refl

-- the values that were seen are those at which there are cases
module _ (coverage : Coverage) (s : Setting) (r1 r2 : Rule) (are : AreRulesOf (rules_in s.weighed) s.overlap r1 r2)
    (seen : List (List ℤ)) (cases : List Case) (listed : AreCasesBy coverage (rules_in s.weighed) s.overlap cases)
    (same_cases : cases_of s r1 r2 are seen ≡ cases) where
  pub overlap_joins : (v w : Checker) → setting_of v ≡ s → v.passed ≡ 0 → Visited Checks v seen false w
      → HasJoinableCasesBy coverage (rules_in s.weighed) s.overlap w.passed
  overlap_joins v w same zero h =
      let passed = all_passed s r1 r2 are seen v w same h in
      record {
        cases = cases;
        listed = listed;
        joinable = subst (All (IsJoinable (rules_in s.weighed))) same_cases passed.joinable;
        number = (let f = listed_few coverage (rules_in s.weighed) s.overlap cases listed in let e =
            ap length same_cases in let g = passed.number (omega (arith, zero, e, f)) in omega (arith, zero, e, g));
      }

  pub overlap_fails : (v w : Checker) (f : Failure) → setting_of v ≡ s → Visited Checks v seen true w → w.failing
      ≡ Some f → RefusesAt coverage (rules_in s.weighed) s.overlap (Fails f)
  overlap_fails v w f same h e first =
      let found = first_found s r1 r2 are seen v w same h in
      let is : found.failure ≡ f = same_Some found.failure f (sym found.found ∙ e) in
      let over : s.overlap ≡ f.overlap = sym found.overlap ∙ ap (λ (x : Failure). x.overlap) is in (
        subst (IsFirstBy coverage (rules_in s.weighed)) over first,
        record {
          case = found.case;
          first = subst (λ o. IsFirstCaseBy coverage (rules_in s.weighed) o found.case) over (record {
            before = found.before;
            after = found.after;
            listed = subst (AreCasesBy coverage (rules_in s.weighed) s.overlap) (sym same_cases ∙ found.parts) listed;
            joinable = found.joinable;
          });
          explains = subst (Explains (rules_in s.weighed) found.case) is found.explains;
        },
      )

  -- what is told of a walk
  pub told_joins : (v w : Checker) (stopped : Bool) (result : Result ℕ Cause) → setting_of v ≡ s → v.passed ≡ 0
      → Visited Checks v seen stopped w → IfOk result (λ n. (stopped ≡ false) × (n ≡ w.passed))
      → IfOk result (HasJoinableCasesBy coverage (rules_in s.weighed) s.overlap)
  told_joins v w stopped (Ok n) same zero h t =
      subst (HasJoinableCasesBy coverage (rules_in s.weighed) s.overlap) (sym t.1)
      (overlap_joins v w same zero (subst (λ b. Visited Checks v seen b w) t.0 h))
  told_joins v w stopped (Err e) same zero h t = t

  pub told_fails : (v w : Checker) (stopped : Bool) (result : Result ℕ Cause) → setting_of v ≡ s
      → Visited Checks v seen stopped w → IfErr result (HasTold w.failing stopped)
      → IfErr result (RefusesAt coverage (rules_in s.weighed) s.overlap)
  told_fails v w stopped (Ok n) same h t = t
  told_fails v w stopped (Err (Fails f)) same h t = overlap_fails v w f same
      (subst (λ b. Visited Checks v seen b w) t.0 h) t.1
  told_fails v w stopped (Err (TooManyTypes x)) same h t = absurd t
  told_fails v w stopped (Err Memory) same h t = λ first. tt

-- ---- by joint cases

module _ (s : Setting) (constants : List ℤ) (rs : List (List ℤ))
    (u : IsUnifiedAt (rules_in s.weighed) s.overlap s.unified) (are : AreConstants (rules_in s.weighed) constants)
    (types : AreTypes (length s.unified.free.items) constants rs)
    (none : ¬ MoreTypesThan MAX_TYPES (length s.unified.free.items) constants) where
  abbrev pub joint_cases : List Case
  joint_cases = cases_of s u.rule1 u.rule2 u.are_rules rs

  pub are_joint_cases : AreCases (rules_in s.weighed) s.overlap joint_cases
  are_joint_cases = listed_cases (rules_in s.weighed) s.overlap u.rule1 u.rule2 s.unified constants rs joint_cases
      u.are_rules.0 u.are_rules.1 are u.solves u.unified types (few_types _ constants rs types none) refl

  -- the values that a walk meets, which leaves beginnings at which a guard fails
  abbrev pub seen_types : List (List ℤ)
  seen_types = filter (are_admitted (all_may_hold s.unified.free.items s.unified.guards.items) []) rs

  pub same_joint_cases : cases_of s u.rule1 u.rule2 u.are_rules seen_types ≡ joint_cases
  same_joint_cases = ap (map (case_at s.overlap u.rule1 u.rule2 (classes_of s.unified)))
      (filter_within (guards_hold (classes_of s.unified) u.rule1 u.rule2)
      (are_admitted (all_may_hold s.unified.free.items s.unified.guards.items) [])
      (λ zs. guards_admitted u.rule1 u.rule2 s.unified zs u.unified) rs)

-- what a walk over order types meets makes cases
pub joint_values : ListedAreCases → (s : Setting) → IsOverlapOf (rules_in s.weighed) s.overlap
    → IsUnifiedAt (rules_in s.weighed) s.overlap s.unified → HaveCases s
joint_values law s of u r1 r2 are zs hold =
    let e = rules_once (rules_in s.weighed) s.overlap u.rule1 u.rule2 r1 r2 u.are_rules are in
    let solves = subst (λ (r : Rule × Rule). IsMostGeneralUnifier (classes_of s.unified)
    (equations_of r.0 r.1 s.overlap.matching.items)) (λ i. (e.0 i, e.1 i)) u.solves in
    law r1 r2 s.overlap.matching.items (matching_at (rules_in s.weighed) s.overlap r1 r2 of are.0 are.1)
    (classes_of s.unified) solves zs hold

-- ---- by sorted cases

pub few_combinations : (sorts : Sorts) (ks : List ℕ) (rs : List (List ℤ)) → AreCombinations sorts ks rs
    → ¬ MoreCombinationsThan sorts ks MAX_TYPES → length rs ≤ MAX_TYPES
few_combinations sorts ks rs are none = elim (nat_lt MAX_TYPES (length rs)) as (λ b. nat_lt MAX_TYPES (length rs) ≡ b
    → length rs ≤ MAX_TYPES) [
      | true ↦ λ e. absurd (none (rs, are, grind (arith, nat_tests)))
      | false ↦ λ e. grind (arith, nat_tests)
    ] refl

module _ (sorts : Sorts) (s : Setting) (rs : List (List ℤ))
    (u : IsSortedUnifiedAt (rules_in s.weighed) s.overlap s.unified) (finest : AreFinest (rules_in s.weighed) sorts)
    (all : AreCombinations sorts (class_sorts sorts (classes_of s.unified) u.rule1 u.rule2) rs)
    (within : length rs ≤ MAX_TYPES) where
  abbrev pub sorted_cases : List Case
  sorted_cases = cases_of s u.rule1 u.rule2 u.are_rules rs

  pub are_sorted_cases : AreCasesBy Sorted (rules_in s.weighed) s.overlap sorted_cases
  are_sorted_cases = (
    sorts,
    finest,
    record {
      rule1 = u.rule1;
      rule2 = u.rule2;
      first = u.are_rules.0;
      second = u.are_rules.1;
      listed = inr (record {
        classes = classes_of s.unified;
        combinations = rs;
        solves = u.solves;
        all = all;
        within =
            within;
        cases_are = refl;
      });
    },
  )

pub sorted_values : SortedAreCases → (s : Setting) → IsOverlapOf (rules_in s.weighed) s.overlap
    → IsSortedUnifiedAt (rules_in s.weighed) s.overlap s.unified → HaveCases s
sorted_values law s of u r1 r2 are zs hold =
    let e = rules_once (rules_in s.weighed) s.overlap u.rule1 u.rule2 r1 r2 u.are_rules are in
    let solves = subst (λ (r : Rule × Rule). IsMostGeneralUnifier (classes_of s.unified)
    (all_equations r.0 r.1 s.overlap.matching.items)) (λ i. (e.0 i, e.1 i)) u.solves in
    law r1 r2 s.overlap.matching.items (matching_at (rules_in s.weighed) s.overlap r1 r2 of are.0 are.1)
    (classes_of s.unified) solves zs hold

pub no_sorted_cases : (rules : List Rule) (sorts : Sorts) (o : Overlap) → AreFinest rules sorts
    → HasNoSortedUnifier rules o → HasJoinableCasesBy Sorted rules o 0
no_sorted_cases rules sorts o finest h = record {
  cases = [];
  listed = (
    sorts,
    finest,
    record {
      rule1 = h.rule1;
      rule2 = h.rule2;
      first = h.are_rules.0;
      second = h.are_rules.1;
      listed = inl (h.none, refl);
    },
  );
  joinable = All-nil (IsJoinable rules);
  number = refl;
}

pub too_many_sorted : (rules : List Rule) (sorts : Sorts) (o : Overlap) (u : Unified) (ks : List ℕ) (n : ℕ)
    → AreFinest rules sorts → (is : IsSortedUnifiedAt rules o u)
    → ks ≡ class_sorts sorts (classes_of u) is.rule1 is.rule2 → n ≡ length ks
    → MoreCombinationsThan sorts ks MAX_TYPES → IsTooManyBy Sorted rules o n
too_many_sorted rules sorts o u ks n finest is e count more = (
  sorts,
  finest,
  record {
    rule1 = is.rule1;
    rule2 = is.rule2;
    first = is.are_rules.0;
    second = is.are_rules.1;
    classes = classes_of u;
    solves = is.solves;
    number = count ∙ ap length e;
    many = subst (λ xs. MoreCombinationsThan sorts xs MAX_TYPES) e more;
  },
)
