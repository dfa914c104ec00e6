-- Rules have a list of all overlaps and one of their constants, and each overlap has a list of cases or too many order
-- types.
use Rattle.std.specs.Prelude.{◌≡◌, ℕ, ℤ, ◌-◌, ◌≤◌, ◌⊎◌, List, [], ◌∷◌, length, map, Some, slice_get}
use Rattle.std.specs.List.{filter}
use Rattle.std.proofs.Common.{refl, sym, ap, subst, arith, inl, inr}
use Rattle.chr_base.specs.declared.rule.Rule.{Rule}
use Rattle.chr_base.specs.declared.term.Term.{Term}
use Rattle.chr_base.specs.declared.term.Term.TheVariants.{Variable, Constant}
use Rattle.chr_types.specs.OrderTypes.{In, IsValue, AreValues, MoreTypesThan}
use Rattle.chr_types.specs.Representatives.{AreTypes}
use Rattle.chr_types.proofs.TypesThere.{Joins, joined, types_or_more}
use Rattle.chr_confluence.specs.Constants.{AreConstants}
use Rattle.chr_confluence.specs.Overlaps.{equations_of}
use Rattle.chr_confluence.specs.Representatives.{free_variables, guards_hold}
use Rattle.chr_confluence.specs.Unifiers.{Substitution, IsMostGeneralUnifier, HasNoUnifier}
use Rattle.chr_confluence.proofs.ConstantLaws.{constants_fit}
use Rattle.chr_confluence.proofs.Listed.{value_is}
use Rattle.chr_confluence.proofs.Solving.{unifiers_exist}
use Rattle.chr_overlaps.specs.declared.overlap.Overlap.{Overlap}
use Rattle.chr_overlaps.specs.declared.cases.Case.{Case}
use Rattle.chr_overlaps.specs.declared.cases.TheConstants.{MAX_TYPES}
use Rattle.chr_overlaps.specs.CaseLists.{case_at, AreCases, IsTooMany}
use Rattle.chr_overlaps.specs.OverlapLists.{AreOverlaps, IsOverlapOf}
use Rattle.chr_overlaps.specs.working.Gathering.{AreConstantsIn, all_terms}
use Rattle.chr_overlaps.proofs.Gathered.{all_gathered, none_yet, of_some_rule}
use Rattle.chr_overlaps.proofs.Between.{of_all, part_there}

-- ---- constants

behind_variable : (x : ℕ) (ts : List Term) (cs : List ℤ) → AreConstantsIn ts cs → AreConstantsIn (Variable x ∷ ts) cs
behind_variable x ts cs is = record {
  rise = is.rise;
  values = is.values;
  stand = λ c i. inr (is.stand c i);
  all = λ c i. elim i as (λ _. In c cs) [
    | inl e ↦ absurd (let q : Constant c ≡ Variable x = e in cc)
    | inr j ↦ is.all c j
  ];
}

behind_constant : (d : ℤ) (ts : List Term) (cs ds : List ℤ) → IsValue d → AreConstantsIn ts cs → Joins d cs ds
    → AreConstantsIn (Constant d ∷ ts) ds
behind_constant d ts cs ds v is j = record {
  rise = j.rise;
  values = λ c i. elim (j.only c i) as (λ _. IsValue c) [ inl e ↦ subst IsValue (sym e) v | inr k ↦ is.values c k ];
  stand = λ c i. elim (j.only c i) as (λ _. In (Constant c) (Constant d ∷ ts))
      [ inl e ↦ inl (ap Constant e) | inr k ↦ inr (is.stand c k) ];
  all = λ c i. elim i as (λ _. In c ds) [
    | inl e ↦ j.all c (inl (let q : Constant c ≡ Constant d = e in cc))
    | inr k ↦ j.all c (inr (is.all c k))
  ];
}

pub constants_in : (ts : List Term) → ((c : ℤ) → In (Constant c) ts → IsValue c) → (cs : List ℤ) × AreConstantsIn ts cs
constants_in [] fit = ([], none_yet)
constants_in (Variable x ∷ ts) fit = let w = constants_in ts (λ c i. fit c (inr i)) in
    (w.0, behind_variable x ts w.0 w.1)
constants_in (Constant d ∷ ts) fit =
    let w = constants_in ts (λ c i. fit c (inr i)) in
    let j = joined d w.0 w.1.rise in
    (j.0, behind_constant d ts w.0 j.0 (fit d (inl refl)) w.1 j.1)

pub constants_there : (rules : List Rule) → (cs : List ℤ) × AreConstants rules cs × AreValues cs
constants_there rules =
    let w = constants_in (all_terms rules) (λ c i. value_is c
    (constants_fit rules c (of_some_rule rules (Constant c) i))) in
    (w.0, all_gathered rules w.0 w.1, w.1.values)

-- ---- overlaps

pub overlaps_there : (rules : List Rule) → (os : List Overlap) × AreOverlaps rules os
overlaps_there rules = let w = part_there rules 0 in (w.0, of_all rules (length rules) w.0 (omega arith) w.1)

-- ---- cases

-- a list of its cases, or too many order types
abbrev pub HasCases : List Rule → Overlap → Type 0
HasCases rules o = ((cs : List Case) × AreCases rules o cs) ⊎ ((n : ℕ) × IsTooMany rules o n)

module _ (rules : List Rule) (o : Overlap) (r1 r2 : Rule) (first : slice_get rules (o.first - 1) ≡ Some r1)
    (second : slice_get rules (o.second - 1) ≡ Some r2) where
  none_there : HasNoUnifier (equations_of r1 r2 o.matching.items) → HasCases rules o
  none_there n = inl ([], record { rule1 = r1; rule2 = r2; first = first; second = second; listed = inl (n, refl) })

  module _ (σ : Substitution) (solves : IsMostGeneralUnifier σ (equations_of r1 r2 o.matching.items)) (cs : List ℤ)
      (are : AreConstants rules cs) where
    abbrev free : ℕ
    free = length (free_variables σ r1 r2)

    some_there : (rs : List (List ℤ)) → AreTypes free cs rs → length rs ≤ MAX_TYPES → HasCases rules o
    some_there rs types within = inl (
      map (case_at o r1 r2 σ) (filter (guards_hold σ r1 r2) rs),
      record {
        rule1 = r1;
        rule2 = r2;
        first = first;
        second = second;
        listed = inr (record {
          classes = σ;
          representatives = rs;
          solves = solves;
          types = (cs, are, types);
          within =
              within;
          cases_are = refl;
        });
      },
    )

    many_there : MoreTypesThan MAX_TYPES free cs → HasCases rules o
    many_there more = inr (
      free,
      record {
        rule1 = r1;
        rule2 = r2;
        first = first;
        second = second;
        classes = σ;
        solves = solves;
        number = refl;
        constants = cs;
        are_constants = are;
        more = more;
      },
    )

    by_types : AreValues cs → HasCases rules o
    by_types values = by (types_or_more MAX_TYPES free cs (omega arith) are.rise values)
      where
        by : ((rs : List (List ℤ)) × AreTypes free cs rs × (length rs ≤ MAX_TYPES)) ⊎ MoreTypesThan MAX_TYPES free cs
            → HasCases rules o
        by (inl w) = some_there w.0 w.1 w.2
        by (inr more) = many_there more

  cases_at : HasCases rules o
  cases_at = by (unifiers_exist (equations_of r1 r2 o.matching.items)) (constants_there rules)
    where
      by : HasNoUnifier (equations_of r1 r2 o.matching.items)
          ⊎ ((σ : Substitution) × IsMostGeneralUnifier σ (equations_of r1 r2 o.matching.items))
          → ((cs : List ℤ) × AreConstants rules cs × AreValues cs) → HasCases rules o
      by (inl n) c = none_there n
      by (inr w) c = by_types w.0 w.1 c.0 c.1 c.2

pub cases_there : (rules : List Rule) (o : Overlap) → IsOverlapOf rules o → HasCases rules o
cases_there rules o h =
    let a = h.2.0 in let b = h.2.1 in let is = h.2.2 in
    let place1 : h.0 ≡ o.first - 1 = omega (arith, a) in
    let place2 : h.1 ≡ o.second - 1 = omega (arith, b) in
    cases_at rules o is.rule1 is.rule2 (subst (λ n. slice_get rules n ≡ Some is.rule1) place1 is.first)
    (subst (λ n. slice_get rules n ≡ Some is.rule2) place2 is.second)
