-- Each step of a listed case is an instance in the case's store.
use Rattle.std.specs.Prelude.{◌≡◌, ℤ, ◌-◌, true, List, map, Some, slice_get}
use Rattle.std.specs.List.{filter}
use Rattle.std.proofs.Common.{refl, sym, subst, ◌∙◌, arith, inl, inr}
use Rattle.std.proofs.lemmas.Option.{same_Some}
use Rattle.chr_base.specs.declared.rule.Rule.{Rule}
use Rattle.chr_rewrite.specs.Derivations.{IsApplicable}
use Rattle.chr_types.specs.OrderTypes.{In}
use Rattle.chr_confluence.specs.Cases.{IsCase}
use Rattle.chr_confluence.specs.Unifiers.{Substitution}
use Rattle.chr_confluence.specs.Overlaps.{IsMatching}
use Rattle.chr_confluence.specs.Representatives.{left_at, right_at, guards_hold}
use Rattle.chr_confluence.specs.laws.Peaks.{LeftSideIsStep, RightSideIsStep}
use Rattle.chr_confluence.specs.laws.ListedCases.{ListedAreCases}
use Rattle.chr_overlaps.specs.declared.overlap.Overlap.{Overlap}
use Rattle.chr_overlaps.specs.declared.cases.Case.{Case}
use Rattle.chr_overlaps.specs.OverlapLists.{IsOverlapOf}
use Rattle.chr_overlaps.specs.CaseLists.{case_at}
use Rattle.chr_confluence.specs.laws.SortedCases.{SortedAreCases}
use Rattle.chr_join.specs.declared.coverage.Coverage.{Coverage}
use Rattle.chr_join.specs.declared.coverage.Coverage.TheVariants.{Joint, Sorted}
use Rattle.chr_join.specs.Coverages.{AreCasesBy}
use Rattle.chr_join.proofs.Lists.{picked}

-- the overlap's matching is one of the rules at its places
pub matching_at : (rules : List Rule) (o : Overlap) (r1 r2 : Rule) → IsOverlapOf rules o → slice_get rules (o.first - 1)
    ≡ Some r1 → slice_get rules (o.second - 1) ≡ Some r2 → IsMatching r1 r2 o.matching.items
matching_at rules o r1 r2 h e g =
    let i = h.0 in let j = h.1 in let a = h.2.0 in let b = h.2.1 in let is = h.2.2 in
    let place1 : o.first - 1 ≡ i = omega (arith, a) in
    let place2 : o.second - 1 ≡ j = omega (arith, b) in
    let same1 : is.rule1 ≡ r1 = same_Some _ _ (sym is.first ∙ subst (λ n. slice_get rules n ≡ Some r1) place1 e) in
    let same2 : is.rule2 ≡ r2 = same_Some _ _ (sym is.second ∙ subst (λ n. slice_get rules n ≡ Some r2) place2 g) in
    subst (λ r. IsMatching r1 r o.matching.items) same2
    (subst (λ r. IsMatching r is.rule2 o.matching.items) same1 is.matching)

-- what the laws say of cases
pub record CaseLaws : Type 0 where
  pub cases : ListedAreCases
  pub sorted : SortedAreCases
  pub left : LeftSideIsStep
  pub right : RightSideIsStep

-- both steps of a case at values
pub steps_at : LeftSideIsStep → RightSideIsStep → (rules : List Rule) (o : Overlap) (r1 r2 : Rule) (σ : Substitution)
    (zs : List ℤ) → IsOverlapOf rules o → slice_get rules (o.first - 1) ≡ Some r1 → slice_get rules (o.second - 1)
    ≡ Some r2
    → IsCase r1 r2 o.matching.items (left_at σ r1 r2 zs) (right_at σ r1 r2 zs)
    → IsApplicable rules (case_at o r1 r2 σ zs).store (case_at o r1 r2 σ zs).left
    × IsApplicable rules (case_at o r1 r2 σ zs).store (case_at o r1 r2 σ zs).right
steps_at to_left to_right rules o r1 r2 σ zs h first second case =
    let m = o.matching.items in
    let v1 = left_at σ r1 r2 zs in
    let v2 = right_at σ r1 r2 zs in
    let left = to_left r1 r2 m v1 v2 case in
    let right = to_right r1 r2 m v1 v2 case in
    let a = h.2.0 in let b = h.2.1 in (
      record {
        rule = r1;
        numbered = omega (arith, a);
        named = first;
        instance = (v1, refl, left.guard);
        there =
            left.there;
      },
      record {
        rule = r2;
        numbered = omega (arith, b);
        named = second;
        instance = (v2, refl, right.guard);
        there =
            right.there;
      },
    )

-- both steps of a listed case, which a list of values makes
module _ (laws : CaseLaws) (rules : List Rule) (o : Overlap) (r1 r2 : Rule) (h : IsOverlapOf rules o)
    (first : slice_get rules (o.first - 1) ≡ Some r1) (second : slice_get rules (o.second - 1) ≡ Some r2)
    (σ : Substitution)
    (are : (zs : List ℤ) → guards_hold σ r1 r2 zs ≡ true → IsCase r1 r2 o.matching.items (left_at σ r1 r2 zs)
    (right_at σ r1 r2 zs)) where
  steps_of : (rs : List (List ℤ)) (cs : List Case) → cs ≡ map (case_at o r1 r2 σ) (filter (guards_hold σ r1 r2) rs)
      → (c : Case) → In c cs → IsApplicable rules c.store c.left × IsApplicable rules c.store c.right
  steps_of rs cs e c i =
      let at = picked (case_at o r1 r2 σ) (guards_hold σ r1 r2) rs c (subst (In c) e i) in
      subst (λ x. IsApplicable rules x.store x.left × IsApplicable rules x.store x.right) at.3
      (steps_at laws.left laws.right rules o r1 r2 σ at.0 h first second (are at.0 at.2))

pub case_steps : CaseLaws → (coverage : Coverage) (rules : List Rule) (o : Overlap) (cs : List Case)
    → IsOverlapOf rules o → AreCasesBy coverage rules o cs → (c : Case) → In c cs → IsApplicable rules c.store c.left
    × IsApplicable rules c.store c.right
case_steps laws Joint rules o cs h is c i = elim is.listed as (λ _. IsApplicable rules c.store c.left
    × IsApplicable rules c.store c.right) [
      | inl n ↦ absurd (subst (In c) n.1 i)
      | inr l ↦ steps_of laws rules o is.rule1 is.rule2 h is.first is.second l.classes
          (λ zs g. laws.cases is.rule1 is.rule2 o.matching.items
          (matching_at rules o is.rule1 is.rule2 h is.first is.second) l.classes l.solves zs g) l.representatives cs
          l.cases_are c i
    ]
case_steps laws Sorted rules o cs h is c i = elim is.2.listed as (λ _. IsApplicable rules c.store c.left
    × IsApplicable rules c.store c.right) [
      | inl n ↦ absurd (subst (In c) n.1 i)
      | inr l ↦ steps_of laws rules o is.2.rule1 is.2.rule2 h is.2.first is.2.second l.classes
          (λ zs g. laws.sorted is.2.rule1 is.2.rule2 o.matching.items
          (matching_at rules o is.2.rule1 is.2.rule2 h is.2.first is.2.second) l.classes l.solves zs g) l.combinations
          cs
          l.cases_are c i
    ]
