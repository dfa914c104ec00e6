-- Every case of 64-bit values is the image of a sorted one, so sorted cases decide confluence.
use Rattle.std.specs.Prelude.{◌≡◌, ℕ, ℤ, ◌+◌, ◌<◌, ◌≤◌, true, List, ◌++◌, map, length, Some, slice_get}
use Rattle.std.proofs.Common.{refl, sym, ap, subst, ◌∙◌, inl, inr, arith}
use Rattle.std.proofs.lemmas.Bool.{and_from, and_parts}
use Rattle.std.proofs.lemmas.List.{length-map}
use Rattle.std.specs.Ordering.{int_cmp}
use Rattle.chr_base.specs.declared.term.Term.{Term}
use Rattle.chr_base.specs.declared.term.Term.TheVariants.{Variable, Constant}
use Rattle.chr_base.specs.declared.term.Cmp.TheVariants.{Equal}
use Rattle.chr_base.specs.declared.term.Comparison.{Comparison}
use Rattle.chr_base.specs.declared.rule.Rule.{Rule}
use Rattle.chr_base.specs.RuleTests.{terms_of, is_bound_in}
use Rattle.chr_base.specs.Rules.{Step, Valuation, term_value, heads_of, guard_holds, comparison_holds, compares}
use Rattle.chr_base.specs.Rewriting.{AreJoinable}
use Rattle.chr_base.specs.Values.{HasValues, args_in, is_value}
use Rattle.chr_base.proofs.Steps.{removed_there}
use Rattle.chr_types.specs.OrderTypes.{In, AreValues}
use Rattle.chr_types.proofs.Members.{in_first, in_second}
use Rattle.chr_types.proofs.Holes.{same_yes}
use Rattle.chr_confluence.specs.Cases.{IsCase, case_store, side}
use Rattle.chr_confluence.specs.Unifiers.{Substitution, Unifies, IsInstanceOf, IsMostGeneralUnifier}
use Rattle.chr_confluence.specs.Overlaps.{IsMatching, variables_of, renamed_apart, equations_of}
use Rattle.chr_confluence.specs.Representatives.{free_variables, assignment, left_at, right_at, guards_hold}
use Rattle.chr_confluence.specs.Listed.{listed_store, left_side, right_side, ListedCaseIsJoinable}
use Rattle.chr_confluence.proofs.Joints.{joint, joint_parts, joint_meets, joint_agrees}
use Rattle.chr_confluence.proofs.Solutions.{spread_constant}
use Rattle.chr_confluence.proofs.Numbered.{head_variable, occurs_in}
use Rattle.chr_confluence.proofs.Frees.{beside_in}
use Rattle.chr_confluence.proofs.CaseMatchings.{matching_of, matches_at}
use Rattle.chr_confluence.proofs.CaseSteps.{left_step, right_step}
use Rattle.chr_confluence.proofs.Listed.{is_value_of, atoms_in, case_each, class_values}
use Rattle.chr_confluence.proofs.PeaksJoin.{peaks_join}
use Rattle.chr_confluence.proofs.Confluent.{confluent}
use Rattle.chr_confluence.proofs.Refuting.{not_confluent}
use Rattle.chr_confluence.specs.Images.{image, Carries}
use Rattle.chr_confluence.specs.Sorts.{Sorts, FitRule, Fit, sort_of, sorted_terms}
use Rattle.chr_confluence.specs.SortMaps.{Map, Sets, IsSortedMap, move, is_within}
use Rattle.chr_confluence.specs.SortLists.{StandsFor}
use Rattle.chr_confluence.specs.SortedCases.{guard_equations, equation_apart, all_equations, joint_sort, class_sorts}
use Rattle.chr_confluence.specs.SortedCases.{IsImageOfSorted}
use Rattle.chr_confluence.specs.laws.SortedCases.{EveryCaseIsSorted, SortedAreCases, SortedHaveValues, SortedSuffice}
use Rattle.chr_confluence.specs.laws.SortedCases.{SortedMakeConfluent, FailingSortedRefutes}
use Rattle.chr_confluence.proofs.Carrying.{side_carried, both_carried, case_carried}
use Rattle.chr_confluence.proofs.SortPlaces.{term_in}
use Rattle.chr_confluence.proofs.SortMoves.{all_in, carries, guard_back, within_terms, head_stands, sorts_stay}
use Rattle.chr_confluence.proofs.SortMoves.{sorted_joins}
use Rattle.chr_confluence.proofs.SortEquations.{unifies_from, unifies_at, guard_equation, has_equation, in_mapped}
use Rattle.chr_confluence.proofs.SortEquations.{head_ranged}
use Rattle.chr_confluence.proofs.SortEquations.{by_parts, guard_bound, sort_left, sort_right, all_alike}
use Rattle.chr_confluence.proofs.SortClasses.{one_sort, own_constant, goes}
use Rattle.chr_confluence.proofs.SortStanding.{map_between, sets_between, is_sorted, sends_pair, assigned}

-- ---- a case meets all equations

module _ (r : Rule) (k : ℕ) (w v : Valuation) where
  -- the terms of a comparison have the one value that they have under v
  like_bound : ((x : ℕ) → In (Variable x) (terms_of (heads_of r)) → w x ≡ v x) → (t : Term) → is_bound_in (heads_of r) t
      ≡ true → term_value w t ≡ term_value v t
  like_bound same (Variable x) b = same x (occurs_in x (heads_of r) b)
  like_bound same (Constant c) b = refl

  like_apart : ((x : ℕ) → In (Variable x) (terms_of (heads_of r)) → w (k + x) ≡ v x) → (t : Term)
      → is_bound_in (heads_of r) t ≡ true → term_value w (renamed_apart k t) ≡ term_value v t
  like_apart same (Variable x) b = same x (occurs_in x (heads_of r) b)
  like_apart same (Constant c) b = refl

equation_holds : (v : Valuation) (c : Comparison) → c.cmp ≡ Equal → comparison_holds v c ≡ true → term_value v c.left
    ≡ term_value v c.right
equation_holds v c e h = same_yes (term_value v c.left) (term_value v c.right)
    (subst (λ s. compares s (int_cmp (term_value v c.left) (term_value v c.right)) ≡ true) e h)

pub joint_solves : (r1 r2 : Rule) (m : List ℕ) (v1 v2 : Valuation) → IsCase r1 r2 m v1 v2
    → Unifies (joint (variables_of r1) v1 v2) (all_equations r1 r2 m)
joint_solves r1 r2 m v1 v2 case = unifies_from w (all_equations r1 r2 m)
    (by_parts r1 r2 m (λ e. term_value w e.0 ≡ term_value w e.1)
    (λ e i. unifies_at w (equations_of r1 r2 m) (joint_meets r1 r2 m v1 v2 case.matches.agrees) e i)
    (λ e i. (let g = guard_equation r1.guard.items e i in let b = guard_bound r1 g.comparison g.stands in
    let q = equation_holds v1 g.comparison g.sign (all_in (comparison_holds v1) r1.guard.items case.guard1 g.comparison
    g.stands) in
    subst (λ (z : Term × Term). term_value w z.0 ≡ term_value w z.1) (sym g.sides)
    (like_bound r1 (variables_of r1) w v1 (joint_parts r1 r2 v1 v2).left g.comparison.left b.0 ∙ q
    ∙ sym (like_bound r1 (variables_of r1) w v1 (joint_parts r1 r2 v1 v2).left g.comparison.right b.1))))
    (λ e i. (let g = guard_equation r2.guard.items e i in let b = guard_bound r2 g.comparison g.stands in
    let q = equation_holds v2 g.comparison g.sign (all_in (comparison_holds v2) r2.guard.items case.guard2 g.comparison
    g.stands) in
    subst (λ (z : Term × Term). term_value w (renamed_apart (variables_of r1) z.0)
    ≡ term_value w (renamed_apart (variables_of r1) z.1)) (sym g.sides)
    (like_apart r2 (variables_of r1) w v2 (joint_parts r1 r2 v1 v2).right g.comparison.left b.0 ∙ q
    ∙ sym (like_apart r2 (variables_of r1) w v2 (joint_parts r1 r2 v1 v2).right g.comparison.right b.1)))))
  where
    w : Valuation
    w = joint (variables_of r1) v1 v2

-- ---- a sorted case is a case

module _ (r1 r2 : Rule) (m : List ℕ) (is : IsMatching r1 r2 m) (σ : Substitution)
    (solves : IsMostGeneralUnifier σ (all_equations r1 r2 m)) (zs : List ℤ) where
  sorted_solves : Unifies (left_at σ r1 r2 zs) (all_equations r1 r2 m)
  sorted_solves = solves.met (left_at σ r1 r2 zs) (spread_constant σ (assignment (free_variables σ r1 r2) zs)
      solves.classes)

  sorted_meets : Unifies (left_at σ r1 r2 zs) (equations_of r1 r2 m)
  sorted_meets = unifies_from (left_at σ r1 r2 zs) (equations_of r1 r2 m)
      (λ e i. unifies_at (left_at σ r1 r2 zs) (all_equations r1 r2 m) sorted_solves e
      (in_first e (equations_of r1 r2 m ++ guard_equations r1.guard.items)
      (map (equation_apart (variables_of r1)) (guard_equations r2.guard.items))
      (in_first e (equations_of r1 r2 m) (guard_equations r1.guard.items) i)))

  pub sorted_is_case : guards_hold σ r1 r2 zs ≡ true → IsCase r1 r2 m (left_at σ r1 r2 zs) (right_at σ r1 r2 zs)
  sorted_is_case guards = record {
    matches = matches_at r1 r2 m (left_at σ r1 r2 zs) (right_at σ r1 r2 zs) is
        (joint_agrees r1 r2 m (left_at σ r1 r2 zs) is sorted_meets);
    guard1 = (and_parts _ (guard_holds (right_at σ r1 r2 zs) r2.guard.items) guards).0;
    guard2 = (and_parts (guard_holds (left_at σ r1 r2 zs) r1.guard.items) _ guards).1;
  }

  -- both guards' equations hold
  left_met : (c : Comparison) → In c r1.guard.items → c.cmp ≡ Equal → term_value (left_at σ r1 r2 zs) c.left
      ≡ term_value (left_at σ r1 r2 zs) c.right
  left_met c i e = unifies_at (left_at σ r1 r2 zs) (all_equations r1 r2 m) sorted_solves (c.left, c.right)
      (in_first (c.left, c.right) (equations_of r1 r2 m ++ guard_equations r1.guard.items)
      (map (equation_apart (variables_of r1)) (guard_equations r2.guard.items))
      (in_second (c.left, c.right) (equations_of r1 r2 m) (guard_equations r1.guard.items)
      (has_equation r1.guard.items c i e)))

  apart_value : (t : Term) → term_value (left_at σ r1 r2 zs) (renamed_apart (variables_of r1) t)
      ≡ term_value (right_at σ r1 r2 zs) t
  apart_value (Variable x) = refl
  apart_value (Constant c) = refl

  right_met : (c : Comparison) → In c r2.guard.items → c.cmp ≡ Equal → term_value (right_at σ r1 r2 zs) c.left
      ≡ term_value (right_at σ r1 r2 zs) c.right
  right_met c i e = sym (apart_value c.left) ∙ unifies_at (left_at σ r1 r2 zs) (all_equations r1 r2 m) sorted_solves
      (equation_apart (variables_of r1) (c.left, c.right))
      (in_second (equation_apart (variables_of r1) (c.left, c.right))
      (equations_of r1 r2 m ++ guard_equations r1.guard.items)
      (map (equation_apart (variables_of r1)) (guard_equations r2.guard.items))
      (in_mapped (equation_apart (variables_of r1)) (c.left, c.right) (guard_equations r2.guard.items)
      (has_equation r2.guard.items c i e))) ∙ apart_value c.right

  -- 64-bit values of the free classes make a case of 64-bit values
  module _ (count : length zs ≡ length (free_variables σ r1 r2)) (values : AreValues zs) where
    sorted_value : (x : ℕ) → 0 < x → x ≤ variables_of r1 + variables_of r2 → is_value (left_at σ r1 r2 zs x) ≡ true
    sorted_value x l g = elim (goes r1 r2 m is σ solves x l g) as (λ _. is_value (left_at σ r1 r2 zs x) ≡ true) [
      | inl h ↦ ap is_value (ap (term_value (assignment (free_variables σ r1 r2) zs)) h.1) ∙ h.2
      | inr h ↦ ap is_value (ap (term_value (assignment (free_variables σ r1 r2) zs)) h.1)
          ∙ is_value_of (assignment (free_variables σ r1 r2) zs h.0)
          (values (assignment (free_variables σ r1 r2) zs h.0)
          (beside_in (free_variables σ r1 r2) zs h.0 (sym count) h.2))
    ]

    left_value : (t : Term) → In t (terms_of (heads_of r1)) → is_value (term_value (left_at σ r1 r2 zs) t) ≡ true
    left_value (Variable x) h = let b = head_variable r1 x h in let l = b.1 in sorted_value x b.0 (omega (arith, l))
    left_value (Constant c) h = head_ranged r1 (Constant c) h

    right_value : (t : Term) → In t (terms_of (heads_of r2)) → is_value (term_value (right_at σ r1 r2 zs) t) ≡ true
    right_value (Variable x) h = let b = head_variable r2 x h in let l = b.0 in let g = b.1 in
        sorted_value (variables_of r1 + x) (omega (arith, l)) (omega (arith, g))
    right_value (Constant c) h = head_ranged r2 (Constant c) h

    pub sorted_store_values : HasValues (listed_store σ r1 r2 m zs)
    sorted_store_values = case_each (args_in is_value) r1 r2 m (left_at σ r1 r2 zs) (right_at σ r1 r2 zs)
        (atoms_in is_value (left_at σ r1 r2 zs) (heads_of r1) left_value)
        (atoms_in is_value (right_at σ r1 r2 zs) (heads_of r2) right_value)

pub sorted_case : SortedAreCases
sorted_case r1 r2 m is σ solves zs guards = sorted_is_case r1 r2 m is σ solves zs guards

pub sorted_values : SortedHaveValues
sorted_values r1 r2 m is σ solves zs count values = sorted_store_values r1 r2 m is σ solves zs count values

-- ---- the sorted case of which a case is made

module _ (o : Sorts) (r1 r2 : Rule) (fit1 : FitRule o r1) (fit2 : FitRule o r2) (m : List ℕ) (v1 v2 : Valuation)
    (case : IsCase r1 r2 m v1 v2) (σ : Substitution) (solves : IsMostGeneralUnifier σ (all_equations r1 r2 m))
    (zs : List ℤ) (stands : StandsFor o (class_sorts o σ r1 r2) zs
    (map (joint (variables_of r1) v1 v2) (free_variables σ r1 r2))) where
  is : IsMatching r1 r2 m
  is = matching_of r1 r2 m v1 v2 case

  abbrev w : Valuation
  w = joint (variables_of r1) v1 v2

  abbrev at : ℕ → ℕ
  at = joint_sort o r1 r2

  abbrev to : Map
  to = map_between o (class_sorts o σ r1 r2) zs (map w (free_variables σ r1 r2))

  abbrev sets : Sets
  sets = sets_between o (class_sorts o σ r1 r2) zs (map w (free_variables σ r1 r2))

  sorted_map : IsSortedMap o to sets
  sorted_map = is_sorted o (class_sorts o σ r1 r2) zs (map w (free_variables σ r1 r2)) stands

  on : IsInstanceOf σ w
  on = solves.meets w (joint_solves r1 r2 m v1 v2 case)

  counts : length (free_variables σ r1 r2) ≡ length zs
  counts = sym (stands.count ∙ length-map (free_variables σ r1 r2) at)

  -- a variable's value in the sorted case is sent to its value in the case, and is in the set of its sort
  sent : (x : ℕ) → 0 < x → x ≤ variables_of r1 + variables_of r2 → (to (at x) (left_at σ r1 r2 zs x) ≡ w x)
      × (sets (at x) (left_at σ r1 r2 zs x) ≡ true)
  sent x l g = elim (goes r1 r2 m is σ solves x l g) as (λ _. (to (at x) (left_at σ r1 r2 zs x) ≡ w x)
      × (sets (at x) (left_at σ r1 r2 zs x) ≡ true)) [
        | inl h ↦ (let e : left_at σ r1 r2 zs x ≡ h.0 = ap (term_value (assignment (free_variables σ r1 r2) zs)) h.1 in
            let c : In h.0 (o.constants (at x)) = own_constant o at σ (all_equations r1 r2 m) solves
            (all_alike o r1 r2 fit1 fit2 m is) x h.0 h.1 in (
              ap (to (at x)) e ∙ sorted_map.fixes (at x) h.0 c ∙ sym (on x ∙ ap (term_value w) h.1),
              ap (sets (at x)) e
                  ∙ sorted_map.there (at x) h.0 c,
            ))
        | inr h ↦ (let e : left_at σ r1 r2 zs x ≡ assignment (free_variables σ r1 r2) zs h.0 =
            ap (term_value (assignment (free_variables σ r1 r2) zs)) h.1 in
            let k : at x ≡ at h.0 = one_sort o at σ (all_equations r1 r2 m) solves (all_alike o r1 r2 fit1 fit2 m is) x
            h.0
            h.1 in
            let p = sends_pair o (class_sorts o σ r1 r2) zs (map w (free_variables σ r1 r2)) stands (at h.0)
            (assignment (free_variables σ r1 r2) zs h.0, w h.0)
            (assigned at w (free_variables σ r1 r2) zs h.0 counts h.2) in
            ((λ i. to (k i) (e i)) ∙ p.0 ∙ sym (on x ∙ ap (term_value w) h.1), (λ i. sets (k i) (e i)) ∙ p.1))
      ]

  left_sent : (x : ℕ) → In (Variable x) (terms_of (heads_of r1)) → (v1 x ≡ to (sort_of o r1 x) (left_at σ r1 r2 zs x))
      × (sets (sort_of o r1 x) (left_at σ r1 r2 zs x) ≡ true)
  left_sent x i =
      let b = head_variable r1 x i in let l = b.1 in
      let s = sent x b.0 (omega (arith, l)) in
      let k = sort_left o r1 r2 x i in (
        sym ((joint_parts r1 r2 v1 v2).left x i) ∙ sym s.0 ∙ ap (λ j. to j (left_at σ r1 r2 zs x)) k,
        ap (λ j. sets j (left_at σ r1 r2 zs x)) (sym k) ∙ s.1,
      )

  right_sent : (x : ℕ) → In (Variable x) (terms_of (heads_of r2)) → (v2 x ≡ to (sort_of o r2 x) (right_at σ r1 r2 zs x))
      × (sets (sort_of o r2 x) (right_at σ r1 r2 zs x) ≡ true)
  right_sent x i =
      let b = head_variable r2 x i in let l = b.0 in let g = b.1 in
      let s = sent (variables_of r1 + x) (omega (arith, l)) (omega (arith, g)) in
      let k = sort_right o r1 r2 x i in (
        sym ((joint_parts r1 r2 v1 v2).right x i) ∙ sym s.0 ∙ ap (λ j. to j (right_at σ r1 r2 zs x)) k,
        ap (λ j. sets j (right_at σ r1 r2 zs x)) (sym k) ∙ s.1,
      )

  guards_here : guards_hold σ r1 r2 zs ≡ true
  guards_here = and_from _ _
      (guard_back o r1 fit1 to sets sorted_map (left_at σ r1 r2 zs) v1 (λ x i. (left_sent x i).0)
      (λ x i. (left_sent x i).1) (left_met r1 r2 m is σ solves zs) case.guard1)
      (guard_back o r2 fit2 to sets sorted_map (right_at σ r1 r2 zs) v2 (λ x i. (right_sent x i).0)
      (λ x i. (right_sent x i).1) (right_met r1 r2 m is σ solves zs) case.guard2)

  here : IsCase r1 r2 m (left_at σ r1 r2 zs) (right_at σ r1 r2 zs)
  here = sorted_is_case r1 r2 m is σ solves zs guards_here

  left_carried : Carries (move o to) r1 (left_at σ r1 r2 zs) v1
  left_carried = carries o r1 fit1 to sorted_map.fixes (left_at σ r1 r2 zs) v1 (λ x i. (left_sent x i).0) case.guard1

  right_carried : Carries (move o to) r2 (right_at σ r1 r2 zs) v2
  right_carried = carries o r2 fit2 to sorted_map.fixes (right_at σ r1 r2 zs) v2 (λ x i. (right_sent x i).0) case.guard2

  left_within : (j : ℕ) (t : Term) → In (j, t) (sorted_terms o (heads_of r1))
      → sets j (term_value (left_at σ r1 r2 zs) t) ≡ true
  left_within j (Variable x) i = ap (λ k. sets k (left_at σ r1 r2 zs x))
      (fit1.variables j x (head_stands o r1 fit1 j (Variable x) i))
      ∙ (left_sent x (term_in o (heads_of r1) j (Variable x) i)).1
  left_within j (Constant c) i = sorted_map.there j c (fit1.constants j c (head_stands o r1 fit1 j (Constant c) i))

  right_within : (j : ℕ) (t : Term) → In (j, t) (sorted_terms o (heads_of r2))
      → sets j (term_value (right_at σ r1 r2 zs) t) ≡ true
  right_within j (Variable x) i = ap (λ k. sets k (right_at σ r1 r2 zs x))
      (fit2.variables j x (head_stands o r2 fit2 j (Variable x) i))
      ∙ (right_sent x (term_in o (heads_of r2) j (Variable x) i)).1
  right_within j (Constant c) i = sorted_map.there j c (fit2.constants j c (head_stands o r2 fit2 j (Constant c) i))

  store_is : image (move o to) (listed_store σ r1 r2 m zs) ≡ case_store r1 r2 m v1 v2
  store_is = case_carried (move o to) r1 r2 m (left_at σ r1 r2 zs) (right_at σ r1 r2 zs) v1 v2
      (both_carried (move o to) r1 (left_at σ r1 r2 zs) v1 left_carried)
      (both_carried (move o to) r2 (right_at σ r1 r2 zs) v2 right_carried)

  pub image_is : (rs : List (List ℤ)) → In zs rs → IsImageOfSorted o r1 r2 m σ rs v1 v2
  image_is rs h = record {
    zs = zs;
    listed = h;
    guards = guards_here;
    case = here;
    sets = sets;
    there = case_each (is_within o sets) r1 r2 m (left_at σ r1 r2 zs) (right_at σ r1 r2 zs)
        (within_terms o sets (left_at σ r1 r2 zs) (heads_of r1) left_within)
        (within_terms o sets (right_at σ r1 r2 zs) (heads_of r2) right_within);
    to = to;
    sorted = sorted_map;
    store = store_is;
    left = side_carried (move o to) r1 (left_at σ r1 r2 zs) v1 (listed_store σ r1 r2 m zs)
        (case_store r1 r2 m v1 v2) left_carried.removed left_carried.body
        (removed_there r1 (left_at σ r1 r2 zs) (listed_store σ r1 r2 m zs)
        (left_step r1 r2 m (left_at σ r1 r2 zs) (right_at σ r1 r2 zs) here).there) store_is;
    right = side_carried (move o to) r2 (right_at σ r1 r2 zs) v2 (listed_store σ r1 r2 m zs)
        (case_store r1 r2 m v1 v2) right_carried.removed right_carried.body
        (removed_there r2 (right_at σ r1 r2 zs) (listed_store σ r1 r2 m zs)
        (right_step r1 r2 m (left_at σ r1 r2 zs) (right_at σ r1 r2 zs) here).there) store_is;
  }

pub every_case : EveryCaseIsSorted
every_case o rules fit i j r1 r2 at1 at2 m v1 v2 case each σ rs solves cover =
    let w = cover (map (joint (variables_of r1) v1 v2) (free_variables σ r1 r2))
    (length-map (free_variables σ r1 r2) _ ∙ sym (length-map (free_variables σ r1 r2) (joint_sort o r1 r2)))
    (class_values r1 r2 m v1 v2 case each σ) in
    image_is o r1 r2 (fit i r1 at1) (fit j r2 at2) m v1 v2 case σ solves w.0 w.2 rs w.1

-- ---- sorted cases decide

image_joins : (o : Sorts) (rules : List Rule) → Fit o rules → (i j : ℕ) (r1 r2 : Rule) → slice_get rules i ≡ Some r1
    → slice_get rules j ≡ Some r2 → (m : List ℕ) (σ : Substitution) (rs : List (List ℤ)) (v1 v2 : Valuation)
    → (im : IsImageOfSorted o r1 r2 m σ rs v1 v2) → ListedCaseIsJoinable rules r1 r2 m σ im.zs
    → AreJoinable (Step rules) (side r1 v1 (case_store r1 r2 m v1 v2)) (side r2 v2 (case_store r1 r2 m v1 v2))
image_joins o rules fit i j r1 r2 at1 at2 m σ rs v1 v2 im joins =
    let one = sorts_stay o im.sets r1 _ _ _ (fit i r1 at1) im.sorted.there im.there (left_step r1 r2 m _ _ im.case) in
    let two = sorts_stay o im.sets r2 _ _ _ (fit j r2 at2) im.sorted.there im.there (right_step r1 r2 m _ _ im.case) in
    let j = sorted_joins o im.to im.sets rules (left_side σ r1 r2 m im.zs) (right_side σ r1 r2 m im.zs) fit im.sorted
    one two joins in
    subst (λ s. AreJoinable (Step rules) s (side r2 v2 (case_store r1 r2 m v1 v2))) im.left
    (subst (AreJoinable (Step rules) (image (move o im.to) (left_side σ r1 r2 m im.zs))) im.right j)

pub sorted_suffice : SortedSuffice
sorted_suffice o rules fit sorted i j r1 r2 at1 at2 ordered m v1 v2 case each =
    elim (sorted i j r1 r2 at1 at2 ordered m (matching_of r1 r2 m v1 v2 case)) as (λ _. AreJoinable (Step rules)
    (side r1 v1 (case_store r1 r2 m v1 v2)) (side r2 v2 (case_store r1 r2 m v1 v2))) [
      | inl none ↦ absurd (none (joint (variables_of r1) v1 v2) (joint_solves r1 r2 m v1 v2 case))
      | inr h ↦ (let im = every_case o rules fit i j r1 r2 at1 at2 m v1 v2 case each h.0 h.1 h.2 h.3 in
          image_joins o rules fit i j r1 r2 at1 at2 m h.0 h.1 v1 v2 im (h.4 im.zs im.listed im.guards))
    ]

pub sorted_confluent : SortedMakeConfluent
sorted_confluent o rules w fit lower sorted = confluent rules w lower
    (peaks_join (args_in is_value) rules (sorted_suffice o rules fit sorted))

pub failing_sorted : FailingSortedRefutes
failing_sorted rules i j r1 r2 at1 at2 m is σ solves zs count values guards a b x y differ =
    let case = sorted_is_case r1 r2 m is σ solves zs guards in
    not_confluent rules (listed_store σ r1 r2 m zs) (left_side σ r1 r2 m zs) (right_side σ r1 r2 m zs) a b
    (sorted_store_values r1 r2 m is σ solves zs count values)
    (i, r1, left_at σ r1 r2 zs, at1, left_step r1 r2 m _ _ case)
    (j, r2, right_at σ r1 r2 zs, at2, right_step r1 r2 m _ _ case) x y differ
