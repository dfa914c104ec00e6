-- An accepted program is confluent, and one that is refused with a failing case is not.
use Rattle.chr_overlaps.proofs.OneList.{overlap_listed}
use Rattle.std.specs.Prelude.{◌≡◌, ℕ, ◌-◌, List, [], ◌∷◌, ◌++◌, Some, slice_get, ◌⊎◌}
use Rattle.std.specs.List.{All}
use Rattle.std.proofs.Common.{refl, sym, subst, ◌∙◌, arith, inl, inr}
use Rattle.std.proofs.lemmas.Option.{same_Some}
use Rattle.chr_base.specs.declared.atom.Atom.{Atom}
use Rattle.chr_base.specs.declared.rule.Rule.{Rule}
use Rattle.chr_base.specs.declared.derivation.Step.{Step as StepValue}
use Rattle.chr_base.specs.Stores.{Store}
use Rattle.chr_base.specs.Rules.{StepBy, Valuation, heads_at, StepOn}
use Rattle.chr_rewrite.specs.Derivations.{LeadsTo, IsPlainComputation}
use Rattle.chr_rewrite.proofs.DerivationLemmas.{StepOn-once, plain_reaches, plain_normal}
use Rattle.chr_types.specs.OrderTypes.{In}
use Rattle.chr_confluence.specs.Cases.{side}
use Rattle.chr_confluence.specs.Confluence.{Confluent}
use Rattle.chr_confluence.specs.Lowering.{RulesLower}
use Rattle.chr_confluence.specs.Unifiers.{HasNoUnifier}
use Rattle.chr_confluence.specs.Overlaps.{IsMatching, equations_of}
use Rattle.chr_confluence.specs.Representatives.{left_at, right_at, guards_hold}
use Rattle.chr_confluence.specs.Listed.{ListedAreJoinable, OverlapIsJoinable}
use Rattle.chr_confluence.specs.laws.ListedCases.{ListedMakeConfluent, FailingListedRefutes}
use Rattle.chr_overlaps.specs.declared.overlap.Overlap.{Overlap}
use Rattle.chr_overlaps.specs.declared.cases.Case.{Case}
use Rattle.chr_overlaps.specs.OverlapLists.{IsOverlapOf}
use Rattle.chr_overlaps.specs.CaseLists.{AreCases, AreListed, case_at}
use Rattle.chr_join.specs.Sides.{IsJoinable, SideEnds}
use Rattle.chr_join.specs.Verdicts.{HasJoinableCasesBy, IsAccepted}
use Rattle.chr_join.specs.declared.refused.Failure.{Failure}
use Rattle.chr_join.specs.declared.refused.Cause.{Cause}
use Rattle.chr_join.specs.declared.refused.Cause.TheVariants as cause
use Rattle.chr_join.specs.Explanations.{IsRefusal, IsRefusalBy, IfFails}
use Rattle.chr_join.specs.Once.{RefusedAreNotConfluent}
use Rattle.chr_join.specs.declared.coverage.Coverage.{Coverage}
use Rattle.chr_join.specs.declared.coverage.Coverage.TheVariants.{Joint}
use Rattle.chr_join.proofs.Lists.{in_middle, all_in, picked, placed}
use Rattle.chr_join.proofs.CaseSteps.{CaseLaws, matching_at}
use Rattle.chr_join.proofs.Verdicts.{joinable_in}

-- the side of a listed case is where its step leads
pub side_taken : (rules : List Rule) (s u : Store) (st : StepValue) (r : Rule) (v : Valuation)
    → slice_get rules (st.rule - 1) ≡ Some r → st.heads.items ≡ heads_at v r → StepBy r v s (side r v s)
    → LeadsTo rules st s u → u ≡ side r v s
side_taken rules s u st r v named heads step taken =
    let same : taken.0.rule ≡ r = same_Some _ _ (sym taken.0.named ∙ named) in
    let on : StepOn r st.heads.items s u = subst (λ x. StepOn x st.heads.items s u) same taken.1 in
    let mine : StepOn r st.heads.items s (side r v s) = (v, sym heads, step) in
    StepOn-once r st.heads.items s u (side r v s) on mine

listed_joins : CaseLaws → (rules : List Rule) (o : Overlap) (r1 r2 : Rule) (m : List ℕ) → slice_get rules (o.first - 1)
    ≡ Some r1 → slice_get rules (o.second - 1) ≡ Some r2 → o.matching.items ≡ m → IsMatching r1 r2 m
    → (cs : List Case) → AreListed rules o r1 r2 cs → All (IsJoinable rules) cs → OverlapIsJoinable rules r1 r2 m
listed_joins laws rules o r1 r2 m first second same is cs l joinable =
    subst (λ m. IsMatching r1 r2 m → OverlapIsJoinable rules r1 r2 m) same (λ is. inr (
      l.classes,
      l.representatives,
      l.solves,
      l.types,
      λ zs i g. (
          let c = case_at o r1 r2 l.classes zs in
          let at = placed (case_at o r1 r2 l.classes) (guards_hold l.classes r1 r2) l.representatives zs i g in
          let j = all_in (IsJoinable rules) cs c joinable (subst (In c) (sym l.cases_are) at) in
          let v1 = left_at l.classes r1 r2 zs in
          let v2 = right_at l.classes r1 r2 zs in
          let case = laws.cases r1 r2 o.matching.items is l.classes l.solves zs g in
          let left = side_taken rules c.store j.left.1.0 c.left r1 v1 first refl
          (laws.left r1 r2 o.matching.items v1 v2 case) j.left.1.1 in
          let right = side_taken rules c.store j.right.1.0 c.right r2 v2 second refl
          (laws.right r1 r2 o.matching.items v1 v2 case) j.right.1.1 in (
            j.end,
            plain_reaches rules j.left.0 _ j.end (subst (λ x. IsPlainComputation rules j.left.0 x j.end) left
                j.left.1.2),
            plain_reaches rules j.right.0 _ j.end (subst (λ x. IsPlainComputation rules j.right.0 x j.end) right
                j.right.1.2),
          )),
    )) is

pub accepted_joins : CaseLaws → (rules : List Rule) (n : ℕ) → IsAccepted rules n → ListedAreJoinable rules
accepted_joins laws rules n h i j r1 r2 first second ordered m is =
    let found = overlap_listed rules h.overlaps h.listed i j m
    (record { rule1 = r1; rule2 = r2; first = first; second = second; ordered = ordered; matching = is }) in
    let o = found.0 in
    let joinable = joinable_in Joint rules h.overlaps n o h.joinable found.1 in
    let a = found.2 in let b = found.3 in
    let place1 : i ≡ o.first - 1 = omega (arith, a) in
    let place2 : j ≡ o.second - 1 = omega (arith, b) in
    by o joinable.1 (subst (λ n. slice_get rules n ≡ Some r1) place1 first)
    (subst (λ n. slice_get rules n ≡ Some r2) place2 second) found.4
  where
    by : (o : Overlap) {k : ℕ} → HasJoinableCasesBy Joint rules o k → slice_get rules (o.first - 1) ≡ Some r1
        → slice_get rules (o.second - 1) ≡ Some r2 → o.matching.items ≡ m → OverlapIsJoinable rules r1 r2 m
    by o cj f s e =
        let are = cj.listed in
        let same1 = same_Some _ _ (sym are.first ∙ f) in
        let same2 = same_Some _ _ (sym are.second ∙ s) in
        elim (subst (λ r. (HasNoUnifier (equations_of r1 r o.matching.items) × (cj.cases ≡ []))
        ⊎ AreListed rules o r1 r cj.cases) same2
        (subst (λ r. (HasNoUnifier (equations_of r are.rule2 o.matching.items) × (cj.cases ≡ []))
        ⊎ AreListed rules o r are.rule2 cj.cases) same1 are.listed)) as (λ _. OverlapIsJoinable rules r1 r2 m) [
          | inl none ↦ inl (subst (λ m. HasNoUnifier (equations_of r1 r2 m)) e none.0)
          | inr l ↦ listed_joins laws rules o r1 r2 m f s e is cj.cases l cj.joinable
        ]

-- Rules that are accepted by joint cases, and lower a weight, are confluent.
pub joint_confluent : ListedMakeConfluent → CaseLaws → (rules : List Rule) (w : Atom → ℕ) (n : ℕ) → RulesLower w rules
    → IsAccepted rules n → Confluent rules
joint_confluent law laws rules w n lowers h = law rules w lowers (accepted_joins laws rules n h)

-- A listed case whose sides end in different stores refutes confluence.
pub apart_refutes : FailingListedRefutes → CaseLaws → (rules : List Rule) (o : Overlap) → IsOverlapOf rules o
    → (cs : List Case) → AreCases rules o cs → (c : Case) → In c cs
    → (t u : Store) → SideEnds rules c.store c.left t → SideEnds rules c.store c.right u → ¬ (t ≡ u)
    → ¬ (Confluent rules)
apart_refutes law laws rules o of cs are c i t u left_ends right_ends differ = by are.listed
  where
    r1 : Rule
    r1 = are.rule1

    r2 : Rule
    r2 = are.rule2

    by : (HasNoUnifier (equations_of r1 r2 o.matching.items) × (cs ≡ [])) ⊎ AreListed rules o r1 r2 cs
        → ¬ (Confluent rules)
    by (inl n) = absurd (subst (In c) n.1 i)
    by (inr l) =
        let m = o.matching.items in
        let at = picked (case_at o r1 r2 l.classes) (guards_hold l.classes r1 r2) l.representatives c
        (subst (In c) l.cases_are i) in
        let zs = at.0 in
        let is = matching_at rules o r1 r2 of are.first are.second in
        let v1 = left_at l.classes r1 r2 zs in
        let v2 = right_at l.classes r1 r2 zs in
        let case = laws.cases r1 r2 m is l.classes l.solves zs at.2 in
        let x = case_at o r1 r2 l.classes zs in
        let p = subst (λ (y : Case). SideEnds rules y.store y.left t) (sym at.3) left_ends in
        let q = subst (λ (y : Case). SideEnds rules y.store y.right u) (sym at.3) right_ends in
        let left = side_taken rules x.store p.1.0 x.left r1 v1 are.first refl (laws.left r1 r2 m v1 v2 case) p.1.1 in
        let right = side_taken rules x.store q.1.0 x.right r2 v2 are.second refl
        (laws.right r1 r2 m v1 v2 case) q.1.1 in
        law rules (o.first - 1) (o.second - 1) r1 r2 are.first are.second m is l.classes l.representatives l.solves
        l.types zs at.1 at.2 t u
        (plain_normal rules p.0 _ t (subst (λ y. IsPlainComputation rules p.0 y t) left p.1.2))
        (plain_normal rules q.0 _ u (subst (λ y. IsPlainComputation rules q.0 y u) right q.1.2)) differ

-- A case that fails refutes confluence.
pub failing_refutes : FailingListedRefutes → CaseLaws → (rules : List Rule) (f : Failure)
    → IsRefusal rules (cause.Fails f) → ¬ (Confluent rules)
failing_refutes law laws rules f h =
    let first = h.1.first in
    let e = h.1.explains in
    apart_refutes law laws rules f.overlap (h.0.listed.each f.overlap (in_middle h.0.before f.overlap h.0.after))
    (first.before ++ h.1.case ∷ first.after) first.listed h.1.case
    (in_middle first.before h.1.case first.after) f.left_end f.right_end (e.left.rest, e.left.runs)
    (e.right.rest, e.right.runs) e.differ

pub refusal_refutes : RefusedAreNotConfluent → (coverage : Coverage) (rules : List Rule) (e : Cause)
    → IsRefusalBy coverage rules e → IfFails e (λ _. ¬ (Confluent rules))
refusal_refutes law coverage rules (cause.Fails f) h = law coverage rules f h
refusal_refutes law coverage rules (cause.TooManyTypes t) h = tt
refusal_refutes law coverage rules cause.Memory h = tt
