-- Rules that are accepted are confluent, and those that a case refuses are not, by sorted cases too.
use Rattle.std.specs.Prelude.{◌≡◌, ℕ, ◌-◌, List, [], ◌∷◌, ◌++◌, Some, slice_get, ◌⊎◌}
use Rattle.std.specs.List.{All}
use Rattle.std.proofs.Common.{refl, sym, subst, ◌∙◌, arith, inl, inr}
use Rattle.std.proofs.lemmas.List.{length-map}
use Rattle.std.proofs.lemmas.Option.{same_Some}
use Rattle.chr_base.specs.declared.atom.Atom.{Atom}
use Rattle.chr_base.specs.declared.rule.Rule.{Rule}
use Rattle.chr_rewrite.specs.Derivations.{IsPlainComputation}
use Rattle.chr_rewrite.proofs.DerivationLemmas.{plain_reaches, plain_normal}
use Rattle.chr_types.specs.OrderTypes.{In}
use Rattle.chr_confluence.specs.Confluence.{Confluent}
use Rattle.chr_confluence.specs.Lowering.{RulesLower}
use Rattle.chr_confluence.specs.laws.ListedCases.{ListedMakeConfluent, FailingListedRefutes}
use Rattle.chr_confluence.specs.Unifiers.{HasNoUnifier}
use Rattle.chr_confluence.specs.Overlaps.{IsMatching}
use Rattle.chr_confluence.specs.Representatives.{free_variables, left_at, right_at, guards_hold}
use Rattle.chr_confluence.specs.Sorts.{Sorts}
use Rattle.chr_confluence.specs.SortedCases.{all_equations, class_sorts, joint_sort, SortedOverlapIsJoinable}
use Rattle.chr_confluence.specs.SortedCases.{SortedAreJoinable}
use Rattle.chr_confluence.specs.laws.SortedCases.{SortedMakeConfluent, FailingSortedRefutes}
use Rattle.chr_overlaps.specs.declared.overlap.Overlap.{Overlap}
use Rattle.chr_overlaps.specs.declared.cases.Case.{Case}
use Rattle.chr_overlaps.specs.OverlapLists.{AreOverlaps, IsOverlapOf}
use Rattle.chr_overlaps.specs.CaseLists.{case_at}
use Rattle.chr_overlaps.proofs.OneList.{overlap_listed}
use Rattle.chr_sorting.specs.FinestSorts.{AreFinest}
use Rattle.chr_sorting.specs.SortedCaseLists.{AreSortedListed, AreSortedCases}
use Rattle.chr_sorting.proofs.OneFinest.{finest_have_one_cases}
use Rattle.chr_sorting.specs.laws.Combinations.{CombinationsStandForAll, CombinationsAreValues}
use Rattle.chr_join.specs.declared.refused.Failure.{Failure}
use Rattle.chr_join.specs.Sides.{IsJoinable}
use Rattle.chr_join.specs.Explanations.{Explains, IsRefusalBy}
use Rattle.chr_join.specs.declared.coverage.Coverage.TheVariants.{Joint, Sorted}
use Rattle.chr_join.specs.declared.refused.Cause.TheVariants as cause
use Rattle.chr_join.specs.Verdicts.{HasJoinableCasesBy, HaveJoinableCasesBy, IsAcceptedBy, IsFirstCaseBy}
use Rattle.chr_join.specs.Once.{AcceptedAreConfluent, RefusedAreNotConfluent}
use Rattle.chr_join.proofs.Lists.{in_middle, all_in, picked, placed}
use Rattle.chr_join.proofs.CaseSteps.{CaseLaws, matching_at}
use Rattle.chr_join.proofs.Confluent.{side_taken, joint_confluent, failing_refutes}
use Rattle.chr_join.proofs.Verdicts.{joinable_in}

-- what the laws say of sorted cases
pub record SortedLaws : Type 0 where
  pub steps : CaseLaws
  pub cover : CombinationsStandForAll
  pub values : CombinationsAreValues

sorted_joins : SortedLaws → (s : Sorts) (rules : List Rule) (o : Overlap) (r1 r2 : Rule) (m : List ℕ)
    → slice_get rules (o.first - 1) ≡ Some r1 → slice_get rules (o.second - 1) ≡ Some r2 → o.matching.items ≡ m
    → IsMatching r1 r2 m
    → (cs : List Case) → AreSortedListed s o r1 r2 cs → All (IsJoinable rules) cs
    → SortedOverlapIsJoinable s rules r1 r2 m
sorted_joins laws s rules o r1 r2 m first second same is cs l joinable =
    subst (λ m. IsMatching r1 r2 m → SortedOverlapIsJoinable s rules r1 r2 m) same (λ is. inr (
      l.classes,
      l.combinations,
      l.solves,
      laws.cover s (class_sorts s l.classes r1 r2) l.combinations l.all,
      λ zs i g. (
          let c = case_at o r1 r2 l.classes zs in
          let at = placed (case_at o r1 r2 l.classes) (guards_hold l.classes r1 r2) l.combinations zs i g in
          let j = all_in (IsJoinable rules) cs c joinable (subst (In c) (sym l.cases_are) at) in
          let v1 = left_at l.classes r1 r2 zs in
          let v2 = right_at l.classes r1 r2 zs in
          let case = laws.steps.sorted r1 r2 o.matching.items is l.classes l.solves zs g in
          let left = side_taken rules c.store j.left.1.0 c.left r1 v1 first refl
          (laws.steps.left r1 r2 o.matching.items v1 v2 case) j.left.1.1 in
          let right = side_taken rules c.store j.right.1.0 c.right r2 v2 second refl
          (laws.steps.right r1 r2 o.matching.items v1 v2 case) j.right.1.1 in (
            j.end,
            plain_reaches rules j.left.0 _ j.end (subst (λ x. IsPlainComputation rules j.left.0 x j.end) left
                j.left.1.2),
            plain_reaches rules j.right.0 _ j.end (subst (λ x. IsPlainComputation rules j.right.0 x j.end) right
                j.right.1.2),
          )),
    )) is

accepted_joins : SortedLaws → (rules : List Rule) (n : ℕ) → IsAcceptedBy Sorted rules n → (s : Sorts)
    → AreFinest rules s → SortedAreJoinable s rules
accepted_joins laws rules n h s finest i j r1 r2 first second ordered m is =
    let found = overlap_listed rules h.overlaps h.listed i j m
    (record { rule1 = r1; rule2 = r2; first = first; second = second; ordered = ordered; matching = is }) in
    let o = found.0 in
    let joinable = joinable_in Sorted rules h.overlaps n o h.joinable found.1 in
    let a = found.2 in let b = found.3 in
    let place1 : i ≡ o.first - 1 = omega (arith, a) in
    let place2 : j ≡ o.second - 1 = omega (arith, b) in
    by o joinable.1 (subst (λ n. slice_get rules n ≡ Some r1) place1 first)
    (subst (λ n. slice_get rules n ≡ Some r2) place2 second) found.4
  where
    by : (o : Overlap) {k : ℕ} → HasJoinableCasesBy Sorted rules o k → slice_get rules (o.first - 1) ≡ Some r1
        → slice_get rules (o.second - 1) ≡ Some r2 → o.matching.items ≡ m → SortedOverlapIsJoinable s rules r1 r2 m
    by o cj f g e =
        let are : AreSortedCases s rules o cj.cases = finest_have_one_cases rules cj.listed.0 s cj.listed.1 finest o
        cj.cases cj.listed.2 in
        let same1 = same_Some _ _ (sym are.first ∙ f) in
        let same2 = same_Some _ _ (sym are.second ∙ g) in
        elim (subst (λ r. (HasNoUnifier (all_equations r1 r o.matching.items) × (cj.cases ≡ []))
        ⊎ AreSortedListed s o r1 r cj.cases) same2
        (subst (λ r. (HasNoUnifier (all_equations r are.rule2 o.matching.items) × (cj.cases ≡ []))
        ⊎ AreSortedListed s o r are.rule2 cj.cases) same1 are.listed)) as (λ _. SortedOverlapIsJoinable s rules r1
        r2 m) [
          | inl none ↦ inl (subst (λ m. HasNoUnifier (all_equations r1 r2 m)) e none.0)
          | inr l ↦ sorted_joins laws s rules o r1 r2 m f g e is cj.cases l cj.joinable
        ]

-- Rules without overlaps have no sorted cases and no joint ones; else the sorts of the first overlap serve for all.
sorted_confluent : ListedMakeConfluent → SortedMakeConfluent → SortedLaws → (rules : List Rule) (w : Atom → ℕ) (n : ℕ)
    → RulesLower w rules → IsAcceptedBy Sorted rules n → Confluent rules
sorted_confluent joint law laws rules w n lowers h = by h.overlaps h.listed h.joinable
  where
    by : (os : List Overlap) → AreOverlaps rules os → HaveJoinableCasesBy Sorted rules os n → Confluent rules
    by [] are j = joint_confluent joint laws.steps rules w n lowers
        (record { overlaps = []; listed = are; joinable = j })
    by (o ∷ os) are j = law j.2.listed.0 rules w j.2.listed.1.fit lowers
        (accepted_joins laws rules n h j.2.listed.0 j.2.listed.1)

pub accepted_confluent : ListedMakeConfluent → SortedMakeConfluent → SortedLaws → AcceptedAreConfluent
accepted_confluent joint law laws Joint rules w n lowers h = joint_confluent joint laws.steps rules w n lowers h
accepted_confluent joint law laws Sorted rules w n lowers h = sorted_confluent joint law laws rules w n lowers h

-- A sorted case that fails refutes confluence.
sorted_refutes : FailingSortedRefutes → SortedLaws → (rules : List Rule) (f : Failure)
    → IsRefusalBy Sorted rules (cause.Fails f) → ¬ (Confluent rules)
sorted_refutes law laws rules f h = by are.listed
  where
    c : Case
    c = h.1.case

    first : IsFirstCaseBy Sorted rules f.overlap c
    first = h.1.first

    cs : List Case
    cs = first.before ++ c ∷ first.after

    s : Sorts
    s = first.listed.0

    are : AreSortedCases s rules f.overlap cs
    are = first.listed.2

    r1 : Rule
    r1 = are.rule1

    r2 : Rule
    r2 = are.rule2

    is_overlap : IsOverlapOf rules f.overlap
    is_overlap = h.0.listed.each f.overlap (in_middle h.0.before f.overlap h.0.after)

    by : (HasNoUnifier (all_equations r1 r2 f.overlap.matching.items) × (cs ≡ []))
        ⊎ AreSortedListed s f.overlap r1 r2 cs → ¬ (Confluent rules)
    by (inl n) = absurd (subst (In c) n.1 (in_middle first.before c first.after))
    by (inr l) =
        let m = f.overlap.matching.items in
        let at = picked (case_at f.overlap r1 r2 l.classes) (guards_hold l.classes r1 r2) l.combinations c
        (subst (In c) l.cases_are (in_middle first.before c first.after)) in
        let zs = at.0 in
        let is = matching_at rules f.overlap r1 r2 is_overlap are.first are.second in
        let v1 = left_at l.classes r1 r2 zs in
        let v2 = right_at l.classes r1 r2 zs in
        let case = laws.steps.sorted r1 r2 m is l.classes l.solves zs at.2 in
        let x = case_at f.overlap r1 r2 l.classes zs in
        let e = subst (λ y. Explains rules y f) (sym at.3) h.1.explains in
        let left = side_taken rules x.store e.left.runs.0 x.left r1 v1 are.first refl
        (laws.steps.left r1 r2 m v1 v2 case) e.left.runs.1 in
        let right = side_taken rules x.store e.right.runs.0 x.right r2 v2 are.second refl
        (laws.steps.right r1 r2 m v1 v2 case) e.right.runs.1 in
        let combined = (l.all.combined zs).0 at.1 in
        law rules (f.overlap.first - 1) (f.overlap.second - 1) r1 r2 are.first are.second m is l.classes l.solves zs
        (combined.0 ∙ length-map (free_variables l.classes r1 r2) (joint_sort s r1 r2))
        (laws.values s (class_sorts s l.classes r1 r2) l.combinations first.listed.1.values l.all zs at.1) at.2
        f.left_end f.right_end
        (plain_normal rules e.left.rest _ f.left_end (subst (λ y. IsPlainComputation rules e.left.rest y f.left_end)
        left e.left.runs.2))
        (plain_normal rules e.right.rest _ f.right_end
        (subst (λ y. IsPlainComputation rules e.right.rest y f.right_end) right e.right.runs.2)) e.differ

pub refused_not_confluent : FailingListedRefutes → FailingSortedRefutes → SortedLaws → RefusedAreNotConfluent
refused_not_confluent joint law laws Joint rules f h = failing_refutes joint laws.steps rules f h
refused_not_confluent joint law laws Sorted rules f h = sorted_refutes law laws rules f h
