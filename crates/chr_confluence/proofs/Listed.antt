-- Every case of 64-bit values is made of a listed one, so it joins where that does.
use Rattle.std.specs.Prelude.{◌≡◌, ℕ, suc, ℤ, pos, neg_ℤ, ◌+◌, ◌-◌, ◌^◌, ◌<◌, ◌≤◌, int_le, Bool, true, false, cond}
use Rattle.std.specs.Prelude.{List, [], ◌∷◌, ◌++◌, map, Some, slice_get}
use Rattle.std.specs.List.{list_all, zip}
use Rattle.std.proofs.Common.{refl, sym, ap, subst, ◌∙◌, inl, inr, arith}
use Rattle.std.proofs.lemmas.Int.{ints}
use Rattle.std.proofs.lemmas.Bool.{and_from, cases_lt, and_parts}
use Rattle.std.proofs.lemmas.List.Folds.{list_all-append}
use Rattle.chr_base.specs.declared.atom.Atom.{Atom}
use Rattle.chr_base.specs.declared.term.Term.{Term}
use Rattle.chr_base.specs.declared.term.Term.TheVariants.{Variable, Constant}
use Rattle.chr_base.specs.declared.term.Pattern.{Pattern}
use Rattle.chr_base.specs.declared.rule.Rule.{Rule}
use Rattle.chr_base.specs.RuleTests.{terms_of}
use Rattle.chr_base.specs.Rules.{Step, Valuation, term_value, atoms_at, guard_holds, heads_at, heads_of}
use Rattle.chr_base.proofs.Instances.{SameOn, same_guard, guard_known}
use Rattle.std.proofs.lemmas.List.{length-map}
use Rattle.chr_base.proofs.Steps.{removed_there}
use Rattle.chr_base.specs.Rewriting.{AreJoinable}
use Rattle.chr_types.specs.OrderTypes.{In, IsValue, AreValues, SameType}
use Rattle.chr_base.specs.Values.{is_value, args_in, Each, HasValues}
use Rattle.chr_confluence.specs.Matchings.{left_over, names}
use Rattle.chr_confluence.specs.Cases.{IsCase, both_heads, case_store, side}
use Rattle.chr_confluence.specs.Unifiers.{Substitution, IsInstanceOf, IsMostGeneralUnifier, Unifies}
use Rattle.chr_confluence.specs.Overlaps.{variables_of, equations_of}
use Rattle.chr_confluence.proofs.Joints.{joint, joint_parts, joint_meets, joint_agrees}
use Rattle.chr_confluence.specs.Constants.{AreConstants}
use Rattle.chr_confluence.specs.Representatives.{AreRepresentatives, free_variables, assignment, left_at, right_at}
use Rattle.chr_confluence.specs.Representatives.{guards_hold}
use Rattle.chr_confluence.proofs.ConstantLaws.{constants_fit}
use Rattle.chr_confluence.proofs.Refuting.{not_confluent}
use Rattle.chr_confluence.specs.Rising.{KeepsOrder, FixesRule, rename, rename_atom, among}
use Rattle.chr_confluence.proofs.Images.{image, image-keeps, image-fixes}
use Rattle.chr_confluence.specs.Listed.{listed_store, left_side, right_side, ListedCaseIsJoinable, IsImageOfListed}
use Rattle.chr_confluence.specs.laws.ListedCases.{ListedSuffice, EveryCaseIsListed, ListedAreCases, ListedHaveValues}
use Rattle.chr_confluence.specs.laws.ListedCases.{ListedMakeConfluent, FailingListedRefutes}
use Rattle.chr_confluence.proofs.Solutions.{spread_constant}
use Rattle.chr_types.proofs.Members.{in_first, in_second}
use Rattle.chr_confluence.proofs.Numbered.{head_variable, variable_stands, occurs_in, in_occurs}
use Rattle.chr_base.proofs.Each.{each_of_list, list_of_each, each_within}
use Rattle.chr_confluence.proofs.Rising.{pattern_found, guard_moves, fixes_heads, fixes_guard, values_kept}
use Rattle.chr_confluence.proofs.Carried.{heads_carried, case_carried, side_carried, join_carried}
use Rattle.chr_confluence.proofs.CaseSteps.{left_step, right_step}
use Rattle.chr_confluence.proofs.PeaksJoin.{peaks_join}
use Rattle.chr_confluence.proofs.Confluent.{confluent}
use Rattle.chr_confluence.proofs.CaseMatchings.{matching_of, matches_at, both_heads_are}
use Rattle.chr_confluence.proofs.Frees.{free_is, in_map, beside_in, classified, head_constant, carried, within}

-- ---- what is listed is a case

listed_meets : (r1 r2 : Rule) (m : List ℕ) (σ : Substitution) → IsMostGeneralUnifier σ (equations_of r1 r2 m)
    → (zs : List ℤ) → Unifies (left_at σ r1 r2 zs) (equations_of r1 r2 m)
listed_meets r1 r2 m σ solves zs = solves.met (left_at σ r1 r2 zs)
    (spread_constant σ (assignment (free_variables σ r1 r2) zs) solves.classes)

pub listed_case : ListedAreCases
listed_case r1 r2 m is σ solves zs guards = record {
  matches = matches_at r1 r2 m (left_at σ r1 r2 zs) (right_at σ r1 r2 zs) is
      (joint_agrees r1 r2 m (left_at σ r1 r2 zs) is (listed_meets r1 r2 m σ solves zs));
  guard1 = (and_parts _ (guard_holds (right_at σ r1 r2 zs) r2.guard.items) guards).0;
  guard2 = (and_parts (guard_holds (left_at σ r1 r2 zs) r1.guard.items) _ guards).1;
}

-- ---- values in a set

pub value_is : (x : ℤ) → is_value x ≡ true → IsValue x
value_is x h = let a = (and_parts (int_le (neg_ℤ (pos (2 ^ 63))) x) _ h).0 in let b =
    (and_parts (int_le (neg_ℤ (pos (2 ^ 63))) x) _ h).1 in (grind (arith, ints, a), grind (arith, ints, b))

-- the terms of patterns are in the set, so the atoms are
pub atoms_in : (d : ℤ → Bool) (v : Valuation) (ps : List Pattern)
    → ((t : Term) → In t (terms_of ps) → d (term_value v t) ≡ true) → list_all (args_in d) (atoms_at v ps) ≡ true
atoms_in d v [] h = refl
atoms_in d v (p ∷ ps) h = and_from _ _ (terms_in p.args.items (λ t i. h t (in_first t p.args.items (terms_of ps) i)))
    (atoms_in d v ps (λ t i. h t (in_second t p.args.items (terms_of ps) i)))
  where
    terms_in : (ts : List Term) → ((t : Term) → In t ts → d (term_value v t) ≡ true)
        → list_all d (map (term_value v) ts) ≡ true
    terms_in [] h = refl
    terms_in (t ∷ ts) h = and_from _ _ (h t (inl refl)) (terms_in ts (λ u i. h u (inr i)))

left_over_all : (p : Atom → Bool) (m : List ℕ) (k : ℕ) (bs : List Atom) → list_all p bs ≡ true
    → list_all p (left_over m k bs) ≡ true
left_over_all p m k [] h = refl
left_over_all p m k (b ∷ bs) h =
    let more = left_over_all p m (suc k) bs ((and_parts (p b) _ h).1) in
    elim (names m (suc k)) as (λ x. list_all p (cond x (left_over m (suc k) bs) (b ∷ left_over m (suc k) bs)) ≡ true)
    [ true ↦ more | false ↦ and_from (p b) _ ((and_parts (p b) _ h).0) more ]

-- a test that all heads pass is passed by each atom of the case's store
pub case_each : (p : Atom → Bool) (r1 r2 : Rule) (m : List ℕ) (v1 v2 : Valuation)
    → list_all p (atoms_at v1 (heads_of r1)) ≡ true → list_all p (atoms_at v2 (heads_of r2)) ≡ true
    → Each p (case_store r1 r2 m v1 v2)
case_each p r1 r2 m v1 v2 h g =
    let a : list_all p (both_heads r1 v1) ≡ true = ap (list_all p) (both_heads_are r1 v1) ∙ h in
    let b : list_all p (both_heads r2 v2) ≡ true = ap (list_all p) (both_heads_are r2 v2) ∙ g in
    each_of_list p (both_heads r1 v1 ++ left_over m 0 (both_heads r2 v2))
    (list_all-append p (both_heads r1 v1) (left_over m 0 (both_heads r2 v2))
    ∙ and_from _ _ a (left_over_all p m 0 (both_heads r2 v2) b))

-- ---- a case of 64-bit values

module _ (r1 r2 : Rule) (m : List ℕ) (v1 v2 : Valuation) (case : IsCase r1 r2 m v1 v2)
    (each : Each (args_in is_value) (case_store r1 r2 m v1 v2)) where
  left_values : (x : ℕ) → In (Variable x) (terms_of (heads_of r1)) → is_value (v1 x) ≡ true
  left_values x i =
      pattern_found (λ z. z) is_value v1 x (heads_of r1) (in_occurs x (heads_of r1) i)
      (list_of_each (args_in is_value) (heads_at v1 r1)
      (each_within (args_in is_value) _ _ (left_step r1 r2 m v1 v2 case).there each))

  right_values : (x : ℕ) → In (Variable x) (terms_of (heads_of r2)) → is_value (v2 x) ≡ true
  right_values x i =
      pattern_found (λ z. z) is_value v2 x (heads_of r2) (in_occurs x (heads_of r2) i)
      (list_of_each (args_in is_value) (heads_at v2 r2)
      (each_within (args_in is_value) _ _ (right_step r1 r2 m v1 v2 case).there each))

  -- each joint variable of the heads has a 64-bit value
  head_value : (x : ℕ) → 0 < x → x ≤ variables_of r1 + variables_of r2 → is_value (joint (variables_of r1) v1 v2 x)
      ≡ true
  head_value x l g = elim (cases_lt (variables_of r1) x) as (λ _. is_value (joint (variables_of r1) v1 v2 x) ≡ true) [
    | inl h ↦ (let i = variable_stands r2 (x - variables_of r1) (omega (arith, h)) (omega (arith, h, g)) in
        let e : variables_of r1 + (x - variables_of r1) ≡ x = omega (arith, h) in
        ap (λ y. is_value (joint (variables_of r1) v1 v2 y)) (sym e)
        ∙ ap is_value ((joint_parts r1 r2 v1 v2).right (x - variables_of r1) i)
        ∙ right_values (x - variables_of r1) i)
    | inr h ↦ (let i = variable_stands r1 x l h in ap is_value ((joint_parts r1 r2 v1 v2).left x i) ∙ left_values x i)
  ]

  pub class_values : (σ : Substitution) → AreValues (map (joint (variables_of r1) v1 v2) (free_variables σ r1 r2))
  class_values σ v i =
      let w = in_map (joint (variables_of r1) v1 v2) v (free_variables σ r1 r2) i in
      let free = free_is σ r1 r2 w.0 w.1 in
      subst IsValue (sym w.2) (value_is (joint (variables_of r1) v1 v2 w.0) (head_value w.0 free.0 free.1))

-- ---- the listed case that it is made of

module _ (rules : List Rule) (i j : ℕ) (r1 r2 : Rule) (at1 : slice_get rules i ≡ Some r1)
    (at2 : slice_get rules j ≡ Some r2) (m : List ℕ) (v1 v2 : Valuation)
    (case : IsCase r1 r2 m v1 v2) (σ : Substitution) (solves : IsMostGeneralUnifier σ (equations_of r1 r2 m))
    (cs : List ℤ) (constants : AreConstants rules cs) (zs : List ℤ)
    (type : SameType cs zs (map (joint (variables_of r1) v1 v2) (free_variables σ r1 r2))) where
  abbrev image_of : ℤ → ℤ
  image_of = image (zip zs (map (joint (variables_of r1) v1 v2) (free_variables σ r1 r2)))

  abbrev values : ℤ → Bool
  values = among (zip zs (map (joint (variables_of r1) v1 v2) (free_variables σ r1 r2))) cs

  on : IsInstanceOf σ (joint (variables_of r1) v1 v2)
  on = solves.meets (joint (variables_of r1) v1 v2) (joint_meets r1 r2 m v1 v2 case.matches.agrees)

  keeps_order : KeepsOrder image_of values
  keeps_order = image-keeps cs zs (map (joint (variables_of r1) v1 v2) (free_variables σ r1 r2)) type

  fixes_rules : (i : ℕ) (r : Rule) → slice_get rules i ≡ Some r → FixesRule image_of values r
  fixes_rules = image-fixes cs zs (map (joint (variables_of r1) v1 v2) (free_variables σ r1 r2)) type rules constants

  left_same : SameOn (heads_of r1) (λ x. image_of (left_at σ r1 r2 zs x)) v1
  left_same x o =
      let h = occurs_in x (heads_of r1) o in let b = head_variable r1 x h in let l = b.1 in
      carried rules i j r1 r2 at1 at2 m σ solves cs constants (joint (variables_of r1) v1 v2) on zs type x b.0
      (omega (arith, l)) ∙ (joint_parts r1 r2 v1 v2).left x h

  right_same : SameOn (heads_of r2) (λ x. image_of (right_at σ r1 r2 zs x)) v2
  right_same x o =
      let h = occurs_in x (heads_of r2) o in let b = head_variable r2 x h in let l = b.0 in let g = b.1 in
      carried rules i j r1 r2 at1 at2 m σ solves cs constants (joint (variables_of r1) v1 v2) on zs type
      (variables_of r1 + x) (omega (arith, l)) (omega (arith, g)) ∙ (joint_parts r1 r2 v1 v2).right x h

  left_within : list_all (args_in values) (atoms_at (left_at σ r1 r2 zs) (heads_of r1)) ≡ true
  left_within = atoms_in values (left_at σ r1 r2 zs) (heads_of r1) by
    where
      by : (t : Term) → In t (terms_of (heads_of r1)) → values (term_value (left_at σ r1 r2 zs) t) ≡ true
      by (Variable x) h = let b = head_variable r1 x h in let l = b.1 in
          within rules i j r1 r2 at1 at2 m σ solves cs constants (joint (variables_of r1) v1 v2) on zs type x b.0
          (omega (arith, l))
      by (Constant c) h = (fixes_heads image_of values r1 (fixes_rules i r1 at1) c h).0

  right_within : list_all (args_in values) (atoms_at (right_at σ r1 r2 zs) (heads_of r2)) ≡ true
  right_within = atoms_in values (right_at σ r1 r2 zs) (heads_of r2) by
    where
      by : (t : Term) → In t (terms_of (heads_of r2)) → values (term_value (right_at σ r1 r2 zs) t) ≡ true
      by (Variable x) h = let b = head_variable r2 x h in let l = b.0 in let g = b.1 in
          within rules i j r1 r2 at1 at2 m σ solves cs constants (joint (variables_of r1) v1 v2) on zs type
          (variables_of r1 + x) (omega (arith, l)) (omega (arith, g))
      by (Constant c) h = (fixes_heads image_of values r2 (fixes_rules j r2 at2) c h).0

  guards_here : guards_hold σ r1 r2 zs ≡ true
  guards_here =
      and_from _ _
      (sym (guard_moves image_of values keeps_order (left_at σ r1 r2 zs) (heads_of r1) r1.guard.items left_within
      (guard_known r1) (fixes_guard image_of values r1 (fixes_rules i r1 at1)))
      ∙ same_guard (heads_of r1) _ v1 r1.guard.items left_same (guard_known r1) ∙ case.guard1)
      (sym (guard_moves image_of values keeps_order (right_at σ r1 r2 zs) (heads_of r2) r2.guard.items right_within
      (guard_known r2) (fixes_guard image_of values r2 (fixes_rules j r2 at2)))
      ∙ same_guard (heads_of r2) _ v2 r2.guard.items right_same (guard_known r2) ∙ case.guard2)

  here : IsCase r1 r2 m (left_at σ r1 r2 zs) (right_at σ r1 r2 zs)
  here = listed_case r1 r2 m (matching_of r1 r2 m v1 v2 case) σ solves zs guards_here

  left_heads_are : map (rename_atom image_of) (both_heads r1 (left_at σ r1 r2 zs)) ≡ both_heads r1 v1
  left_heads_are = heads_carried image_of values r1 v1 (left_at σ r1 r2 zs) (fixes_rules i r1 at1) left_same

  right_heads_are : map (rename_atom image_of) (both_heads r2 (right_at σ r1 r2 zs)) ≡ both_heads r2 v2
  right_heads_are = heads_carried image_of values r2 v2 (right_at σ r1 r2 zs) (fixes_rules j r2 at2) right_same

  store_is : rename image_of (listed_store σ r1 r2 m zs) ≡ case_store r1 r2 m v1 v2
  store_is = case_carried image_of r1 r2 m v1 v2 (left_at σ r1 r2 zs) (right_at σ r1 r2 zs) left_heads_are
      right_heads_are

  image_is : (rs : List (List ℤ)) → In zs rs → IsImageOfListed rules r1 r2 m σ rs v1 v2
  image_is rs h = record {
    zs = zs;
    listed = h;
    guards = guards_here;
    case = here;
    values = values;
    there = case_each (args_in values) r1 r2 m (left_at σ r1 r2 zs) (right_at σ r1 r2 zs) left_within right_within;
    to = image_of;
    keeps = keeps_order;
    fixes = fixes_rules;
    left_heads = left_heads_are;
    right_heads = right_heads_are;
    store = store_is;
    left = side_carried image_of values r1 v1 (left_at σ r1 r2 zs) (listed_store σ r1 r2 m zs)
        (case_store r1 r2 m v1 v2) (fixes_rules i r1 at1) left_same
        (removed_there r1 (left_at σ r1 r2 zs) (listed_store σ r1 r2 m zs)
        (left_step r1 r2 m (left_at σ r1 r2 zs) (right_at σ r1 r2 zs) here).there) store_is;
    right = side_carried image_of values r2 v2 (right_at σ r1 r2 zs) (listed_store σ r1 r2 m zs)
        (case_store r1 r2 m v1 v2) (fixes_rules j r2 at2) right_same
        (removed_there r2 (right_at σ r1 r2 zs) (listed_store σ r1 r2 m zs)
        (right_step r1 r2 m (left_at σ r1 r2 zs) (right_at σ r1 r2 zs) here).there) store_is;
  }

pub every_case : EveryCaseIsListed
every_case rules i j r1 r2 at1 at2 m v1 v2 case each σ rs solves reps =
    let types = reps.2 in
    let w = types.complete (map (joint (variables_of r1) v1 v2) (free_variables σ r1 r2))
    (length-map (free_variables σ r1 r2) _) (class_values r1 r2 m v1 v2 case each σ) in
    image_is rules i j r1 r2 at1 at2 m v1 v2 case σ solves reps.0 reps.1 w.0 w.2 rs w.1

-- ---- a case joins where the listed one does

image_joins : (rules : List Rule) (i j : ℕ) (r1 r2 : Rule) → slice_get rules i ≡ Some r1 → slice_get rules j ≡ Some r2
    → (m : List ℕ) (σ : Substitution) (rs : List (List ℤ)) (v1 v2 : Valuation)
    → (im : IsImageOfListed rules r1 r2 m σ rs v1 v2)
    → ListedCaseIsJoinable rules r1 r2 m σ im.zs → AreJoinable (Step rules) (side r1 v1 (case_store r1 r2 m v1 v2))
    (side r2 v2 (case_store r1 r2 m v1 v2))
image_joins rules i j r1 r2 at1 at2 m σ rs v1 v2 im joins =
    let one = values_kept im.to im.values r1 _ _ _ (im.fixes i r1 at1) im.there (left_step r1 r2 m _ _ im.case) in
    let two = values_kept im.to im.values r2 _ _ _ (im.fixes j r2 at2) im.there (right_step r1 r2 m _ _ im.case) in
    let j = join_carried im.to im.values im.keeps rules im.fixes (left_side σ r1 r2 m im.zs)
    (right_side σ r1 r2 m im.zs) one two joins in
    subst (λ s. AreJoinable (Step rules) s (side r2 v2 (case_store r1 r2 m v1 v2))) im.left
    (subst (AreJoinable (Step rules) (rename im.to (left_side σ r1 r2 m im.zs))) im.right j)

pub listed_suffice : ListedSuffice
listed_suffice rules listed i j r1 r2 at1 at2 ordered m v1 v2 case each =
    elim (listed i j r1 r2 at1 at2 ordered m (matching_of r1 r2 m v1 v2 case)) as (λ _. AreJoinable (Step rules)
    (side r1 v1 (case_store r1 r2 m v1 v2)) (side r2 v2 (case_store r1 r2 m v1 v2))) [
      | inl none ↦ absurd (none (joint (variables_of r1) v1 v2) (joint_meets r1 r2 m v1 v2 case.matches.agrees))
      | inr h ↦ (let im = every_case rules i j r1 r2 at1 at2 m v1 v2 case each h.0 h.1 h.2 h.3 in
          image_joins rules i j r1 r2 at1 at2 m h.0 h.1 v1 v2 im (h.4 im.zs im.listed im.guards))
    ]

-- ---- listed cases have 64-bit values, and decide confluence

pub is_value_of : (x : ℤ) → IsValue x → is_value x ≡ true
is_value_of x h =
    let a = h.0 in
    let b = h.1 in
    let low : int_le (neg_ℤ (pos (2 ^ 63))) x ≡ true = grind (arith, ints, a) in
    let high : int_le x (pos (2 ^ 63 - 1)) ≡ true = grind (arith, ints, b) in
    and_from _ _ low high

module _ (rules : List Rule) (i j : ℕ) (r1 r2 : Rule) (at1 : slice_get rules i ≡ Some r1)
    (at2 : slice_get rules j ≡ Some r2) (m : List ℕ) (σ : Substitution) (rs : List (List ℤ))
    (solves : IsMostGeneralUnifier σ (equations_of r1 r2 m)) (reps : AreRepresentatives rules r1 r2 σ rs) (zs : List ℤ)
    (listed : In zs rs) where
  listed_value : (x : ℕ) → 0 < x → x ≤ variables_of r1 + variables_of r2 → is_value (left_at σ r1 r2 zs x) ≡ true
  listed_value x l g = let stated = reps.2.stated zs listed in
      elim (classified rules i j r1 r2 at1 at2 m σ solves x l g) as (λ _. is_value (left_at σ r1 r2 zs x) ≡ true) [
        | inl h ↦ ap is_value (ap (term_value (assignment (free_variables σ r1 r2) zs)) h.1)
            ∙ constants_fit rules h.0 h.2
        | inr h ↦ ap is_value (ap (term_value (assignment (free_variables σ r1 r2) zs)) h.1)
            ∙ is_value_of (assignment (free_variables σ r1 r2) zs h.0)
            (stated.1.values (assignment (free_variables σ r1 r2) zs h.0)
            (beside_in (free_variables σ r1 r2) zs h.0 (sym stated.0) h.2))
      ]

  left_terms : (t : Term) → In t (terms_of (heads_of r1)) → is_value (term_value (left_at σ r1 r2 zs) t) ≡ true
  left_terms (Variable x) h = let b = head_variable r1 x h in let l = b.1 in listed_value x b.0 (omega (arith, l))
  left_terms (Constant c) h = constants_fit rules c (head_constant rules i r1 at1 c h)

  right_terms : (t : Term) → In t (terms_of (heads_of r2)) → is_value (term_value (right_at σ r1 r2 zs) t) ≡ true
  right_terms (Variable x) h = let b = head_variable r2 x h in let l = b.0 in let g = b.1 in
      listed_value (variables_of r1 + x) (omega (arith, l)) (omega (arith, g))
  right_terms (Constant c) h = constants_fit rules c (head_constant rules j r2 at2 c h)

  listed_store_values : HasValues (listed_store σ r1 r2 m zs)
  listed_store_values = case_each (args_in is_value) r1 r2 m (left_at σ r1 r2 zs) (right_at σ r1 r2 zs)
      (atoms_in is_value (left_at σ r1 r2 zs) (heads_of r1) left_terms)
      (atoms_in is_value (right_at σ r1 r2 zs) (heads_of r2) right_terms)

pub listed_values : ListedHaveValues
listed_values rules i j r1 r2 at1 at2 m σ rs solves reps zs listed =
    listed_store_values rules i j r1 r2 at1 at2 m σ rs solves reps zs listed

pub listed_confluent : ListedMakeConfluent
listed_confluent rules w lower listed = confluent rules w lower
    (peaks_join (args_in is_value) rules (listed_suffice rules listed))

pub failing_listed : FailingListedRefutes
failing_listed rules i j r1 r2 at1 at2 m is σ rs solves reps zs listed guards a b x y differ =
    let case = listed_case r1 r2 m is σ solves zs guards in
    not_confluent rules (listed_store σ r1 r2 m zs) (left_side σ r1 r2 m zs) (right_side σ r1 r2 m zs) a b
    (listed_values rules i j r1 r2 at1 at2 m σ rs solves reps zs listed)
    (i, r1, left_at σ r1 r2 zs, at1, left_step r1 r2 m _ _ case)
    (j, r2, right_at σ r1 r2 zs, at2, right_step r1 r2 m _ _ case) x y differ
