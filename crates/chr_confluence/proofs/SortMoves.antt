-- A sorted map carries the instances of a rule that the sorts fit, and steps keep values within their sorts.
use Rattle.std.specs.Prelude.{◌≡◌, ℕ, suc, ℤ, Bool, true, false, ◌&&◌, List, [], ◌∷◌, map, nat_eq}
use Rattle.std.specs.List.{list_all}
use mathlib.Core.Bool.{true≢false}
use Rattle.std.proofs.Common.{refl, sym, ap, subst, ◌∙◌, inl, inr}
use Rattle.std.proofs.lemmas.Bool.{eqb-true, eqb-false, and_from, and_parts}
use Rattle.std.specs.declared.cmp.Ordering.{Ordering}
use Rattle.std.specs.declared.cmp.Ordering.TheVariants as order
use Rattle.std.specs.Ordering.{int_cmp, is_eq, is_ne}
use Rattle.std.specs.Cmp.{tied_itself, int_cmp_total}
use Rattle.chr_base.specs.declared.term.Term.{Term}
use Rattle.chr_base.specs.declared.term.Term.TheVariants.{Variable, Constant}
use Rattle.chr_base.specs.declared.term.Cmp.{Cmp}
use Rattle.chr_base.specs.declared.term.Cmp.TheVariants.{Less, AtMost, Greater, AtLeast, Equal, NotEqual}
use Rattle.chr_base.specs.declared.term.Comparison.{Comparison}
use Rattle.chr_base.specs.declared.term.Pattern.{Pattern}
use Rattle.chr_base.specs.declared.rule.Rule.{Rule}
use Rattle.chr_base.specs.RuleTests.{is_bound_in, terms_of}
use Rattle.chr_base.specs.Rules.{StepBy, Valuation, term_value, atoms_at, compares, comparison_holds, guard_holds}
use Rattle.chr_base.specs.Rules.{heads_at, heads_of}
use Rattle.chr_base.proofs.Instances.{guard_known, body_known}
use Rattle.chr_base.specs.Stores.{Store}
use Rattle.chr_base.specs.Values.{Each}
use Rattle.chr_base.proofs.Each.{each_of_list, list_of_each, each_within, each_plus, each_minus}
use Rattle.chr_types.specs.OrderTypes.{In}
use Rattle.chr_types.proofs.Members.{in_first, in_second, in_either}
use Rattle.chr_types.proofs.Holes.{same_yes, yes_same}
use Rattle.chr_confluence.proofs.Numbered.{occurs_in}
use Rattle.chr_confluence.proofs.Carried.{kept_known, removed_known}
use Rattle.chr_confluence.specs.Images.{Carries, CarriesSteps}
use Rattle.chr_confluence.specs.Sorts.{Sorts, Kind, ordered, equal, free, terms_from, sorted_terms, sorted_rule_terms}
use Rattle.chr_confluence.specs.Sorts.{sort_of, tells, FitComparison, FitRule, Fit}
use Rattle.chr_confluence.specs.SortMaps.{Map, Sets, KeepsKind, IsSortedMap, moved_from, move, all_from, is_within}
use Rattle.chr_confluence.specs.laws.SortedMaps.{SortsStay, SortedStepsAreCarried, SortedRunsAreCarried}
use Rattle.chr_confluence.specs.laws.SortedMaps.{SortedJoinsAreCarried}
use Rattle.chr_confluence.proofs.Carrying.{step_carried, reaches_carried, join_carried}
use Rattle.chr_confluence.proofs.SortPlaces.{stands_at_sort, sorted-append, term_in}

-- ---- atoms, where each term's value is mapped

module _ (o : Sorts) (h : Map) (v w : Valuation) where
  -- w gives the term the mapped value
  abbrev pub IsMoved : ℕ → Term → Type 0
  IsMoved j t = term_value w t ≡ h j (term_value v t)

  args_moved : (sort : ℕ → ℕ) (k : ℕ) (ts : List Term)
      → ((j : ℕ) (t : Term) → In (j, t) (terms_from sort k ts) → IsMoved j t)
      → moved_from (λ i. h (sort i)) k (map (term_value v) ts) ≡ map (term_value w) ts
  args_moved sort k [] m = refl
  args_moved sort k (t ∷ ts) m = λ i. sym (m (sort k) t (inl refl)) i ∷ args_moved sort (suc k) ts
      (λ j u q. m j u (inr q)) i

  pub atoms_moved : (ps : List Pattern) → ((j : ℕ) (t : Term) → In (j, t) (sorted_terms o ps) → IsMoved j t)
      → map (move o h) (atoms_at v ps) ≡ atoms_at w ps
  atoms_moved [] m = refl
  atoms_moved (p ∷ ps) m =
      let here = args_moved (o.sort p.symbol.0) 0 p.args.items
      (λ j t q. m j t (in_first (j, t) _ (sorted_terms o ps) q)) in
      let more = atoms_moved ps (λ j t q. m j t (in_second (j, t) (terms_from (o.sort p.symbol.0) 0 p.args.items) _
      q)) in
      λ i. record { symbol = p.symbol; args = record { items = here i } } ∷ more i

-- ---- values within their sorts' sets

module _ (o : Sorts) (d : Sets) (v : Valuation) where
  args_within : (sort : ℕ → ℕ) (k : ℕ) (ts : List Term) → all_from (λ i. d (sort i)) k (map (term_value v) ts) ≡ true
      → (j : ℕ) (t : Term) → In (j, t) (terms_from sort k ts) → d j (term_value v t) ≡ true
  args_within sort k [] g j t i = absurd i
  args_within sort k (u ∷ ts) g j t (inl e) = ap (λ (q : ℕ × Term). d q.0 (term_value v q.1)) e ∙ (and_parts _ _ g).0
  args_within sort k (u ∷ ts) g j t (inr i) = args_within sort (suc k) ts
      (and_parts (d (sort k) (term_value v u)) _ g).1 j t i

  pub terms_within : (ps : List Pattern) → list_all (is_within o d) (atoms_at v ps) ≡ true → (j : ℕ) (t : Term)
      → In (j, t) (sorted_terms o ps) → d j (term_value v t) ≡ true
  terms_within [] g j t i = absurd i
  terms_within (p ∷ ps) g j t i = elim (in_either (j, t) (terms_from (o.sort p.symbol.0) 0 p.args.items)
      (sorted_terms o ps) i) as (λ _. d j (term_value v t) ≡ true) [
        | inl q ↦ args_within (o.sort p.symbol.0) 0 p.args.items (and_parts _ _ g).0 j t q
        | inr q ↦ terms_within ps (and_parts (all_from (λ k. d (o.sort p.symbol.0 k)) 0
            (map (term_value v) p.args.items)) _
            g).1 j t q
      ]

  within_args : (sort : ℕ → ℕ) (k : ℕ) (ts : List Term)
      → ((j : ℕ) (t : Term) → In (j, t) (terms_from sort k ts) → d j (term_value v t) ≡ true)
      → all_from (λ i. d (sort i)) k (map (term_value v) ts) ≡ true
  within_args sort k [] m = refl
  within_args sort k (t ∷ ts) m = and_from _ _ (m (sort k) t (inl refl))
      (within_args sort (suc k) ts (λ j u q. m j u (inr q)))

  pub within_terms : (ps : List Pattern) → ((j : ℕ) (t : Term) → In (j, t) (sorted_terms o ps) → d j (term_value v t)
      ≡ true) → list_all (is_within o d) (atoms_at v ps) ≡ true
  within_terms [] m = refl
  within_terms (p ∷ ps) m = and_from _ _
      (within_args (o.sort p.symbol.0) 0 p.args.items (λ j t q. m j t (in_first (j, t) _ (sorted_terms o ps) q)))
      (within_terms ps (λ j t q. m j t (in_second (j, t) (terms_from (o.sort p.symbol.0) 0 p.args.items) _ q)))

-- ---- comparisons

pub unequal : (x y : ℤ) → is_ne (int_cmp x y) ≡ true → x ≡ y → ⊥
unequal x y h e = true≢false (sym h ∙ ap is_ne (ap (int_cmp x) (sym e) ∙ tied_itself int_cmp_total x))

pub are_unequal : (x y : ℤ) → (x ≡ y → ⊥) → is_ne (int_cmp x y) ≡ true
are_unequal x y n = by (int_cmp x y) refl
  where
    by : (r : Ordering) → int_cmp x y ≡ r → is_ne r ≡ true
    by order.Less e = refl
    by order.Equal e = absurd (n (same_yes x y (ap is_eq e)))
    by order.Greater e = refl

-- a map that keeps what the kind asks for keeps the answers that the kind tells
pub answers_kept : (k : Kind) (c : Cmp) (f : ℤ → ℤ) (d : ℤ → Bool) → KeepsKind k f d → tells k c ≡ true → (x y : ℤ)
    → d x ≡ true → d y ≡ true → compares c (int_cmp x y) ≡ true → compares c (int_cmp (f x) (f y)) ≡ true
answers_kept ordered c f d keeps t x y i j h = ap (compares c) (keeps x y i j) ∙ h
answers_kept equal Equal f d keeps t x y i j h = yes_same (f x) (f y) (ap f (same_yes x y h))
answers_kept equal NotEqual f d keeps t x y i j h = are_unequal (f x) (f y) (λ e. unequal x y h (keeps x y i j e))
answers_kept equal Less f d keeps t x y i j h = absurd (true≢false (sym t))
answers_kept equal AtMost f d keeps t x y i j h = absurd (true≢false (sym t))
answers_kept equal Greater f d keeps t x y i j h = absurd (true≢false (sym t))
answers_kept equal AtLeast f d keeps t x y i j h = absurd (true≢false (sym t))
answers_kept free Equal f d keeps t x y i j h = yes_same (f x) (f y) (ap f (same_yes x y h))
answers_kept free NotEqual f d keeps t x y i j h = absurd (true≢false (sym t))
answers_kept free Less f d keeps t x y i j h = absurd (true≢false (sym t))
answers_kept free AtMost f d keeps t x y i j h = absurd (true≢false (sym t))
answers_kept free Greater f d keeps t x y i j h = absurd (true≢false (sym t))
answers_kept free AtLeast f d keeps t x y i j h = absurd (true≢false (sym t))

-- at the values before the map the answers are those at the mapped values, where a comparison for equal ones holds
-- before it
pub answers_back : (k : Kind) (c : Cmp) (f : ℤ → ℤ) (d : ℤ → Bool) → KeepsKind k f d → tells k c ≡ true → (x y : ℤ)
    → d x ≡ true → d y ≡ true → (c ≡ Equal → x ≡ y) → compares c (int_cmp (f x) (f y)) ≡ true → compares c (int_cmp x y)
    ≡ true
answers_back ordered c f d keeps t x y i j e h = ap (compares c) (sym (keeps x y i j)) ∙ h
answers_back equal Equal f d keeps t x y i j e h = yes_same x y (e refl)
answers_back equal NotEqual f d keeps t x y i j e h = are_unequal x y (λ q. unequal (f x) (f y) h (ap f q))
answers_back equal Less f d keeps t x y i j e h = absurd (true≢false (sym t))
answers_back equal AtMost f d keeps t x y i j e h = absurd (true≢false (sym t))
answers_back equal Greater f d keeps t x y i j e h = absurd (true≢false (sym t))
answers_back equal AtLeast f d keeps t x y i j e h = absurd (true≢false (sym t))
answers_back free Equal f d keeps t x y i j e h = yes_same x y (e refl)
answers_back free NotEqual f d keeps t x y i j e h = absurd (true≢false (sym t))
answers_back free Less f d keeps t x y i j e h = absurd (true≢false (sym t))
answers_back free AtMost f d keeps t x y i j e h = absurd (true≢false (sym t))
answers_back free Greater f d keeps t x y i j e h = absurd (true≢false (sym t))
answers_back free AtLeast f d keeps t x y i j e h = absurd (true≢false (sym t))

itself : (c : Cmp) (x y : ℤ) → compares c (int_cmp x x) ≡ true → compares c (int_cmp y y) ≡ true
itself c x y h = ap (compares c) (tied_itself int_cmp_total y ∙ sym (tied_itself int_cmp_total x)) ∙ h

pub all_in : {A : Type 0} (p : A → Bool) (xs : List A) → list_all p xs ≡ true → (x : A) → In x xs → p x ≡ true
all_in p [] h x i = absurd i
all_in p (y ∷ xs) h x (inl e) = ap p e ∙ (and_parts _ _ h).0
all_in p (y ∷ xs) h x (inr i) = all_in p xs (and_parts (p y) _ h).1 x i

-- a guard holds where each of its comparisons does that holds at v
pub guard_by : (v w : Valuation) (cs : List Comparison)
    → ((c : Comparison) → In c cs → comparison_holds v c ≡ true → comparison_holds w c ≡ true) → guard_holds v cs ≡ true
    → guard_holds w cs ≡ true
guard_by v w [] m h = refl
guard_by v w (c ∷ cs) m h = and_from _ _ (m c (inl refl) (and_parts _ _ h).0)
    (guard_by v w cs (λ e i. m e (inr i)) (and_parts (comparison_holds v c) _ h).1)

-- ---- rules

-- a variable or constant of patterns whose variables stand in the heads
pub bound_in : (hs ps : List Pattern) → list_all (λ p. list_all (is_bound_in hs) p.args.items) ps ≡ true → (t : Term)
    → In t (terms_of ps) → is_bound_in hs t ≡ true
bound_in hs [] h t i = absurd i
bound_in hs (p ∷ ps) h t i = elim (in_either t p.args.items (terms_of ps) i) as (λ _. is_bound_in hs t ≡ true) [
  | inl j ↦ all_in (is_bound_in hs) p.args.items (and_parts _ _ h).0 t j
  | inr j ↦ bound_in hs ps (and_parts (list_all (is_bound_in hs) p.args.items) _ h).1 t j
]

module _ (o : Sorts) (r : Rule) (fit : FitRule o r) where
  -- the terms of a part of the rule stand in it
  pub kept_stand : (j : ℕ) (t : Term) → In (j, t) (sorted_terms o r.kept.items)
      → In (j, t) (sorted_terms o (heads_of r))
  kept_stand j t i = subst (In (j, t)) (sym (sorted-append o r.kept.items r.removed.items))
      (in_first (j, t) (sorted_terms o r.kept.items) (sorted_terms o r.removed.items) i)

  pub removed_stand : (j : ℕ) (t : Term) → In (j, t) (sorted_terms o r.removed.items)
      → In (j, t) (sorted_terms o (heads_of r))
  removed_stand j t i = subst (In (j, t)) (sym (sorted-append o r.kept.items r.removed.items))
      (in_second (j, t) (sorted_terms o r.kept.items) (sorted_terms o r.removed.items) i)

  pub head_stands : (j : ℕ) (t : Term) → In (j, t) (sorted_terms o (heads_of r)) → In (j, t) (sorted_rule_terms o r)
  head_stands j t i = in_first (j, t) (sorted_terms o (heads_of r)) (sorted_terms o r.body.items) i

  pub body_stands : (j : ℕ) (t : Term) → In (j, t) (sorted_terms o r.body.items) → In (j, t) (sorted_rule_terms o r)
  body_stands j t i = in_second (j, t) (sorted_terms o (heads_of r)) (sorted_terms o r.body.items) i

  -- a valuation that gives each variable the value mapped at its sort gives the mapped atoms
  module _ (h : Map) (fixes : (k : ℕ) (c : ℤ) → In c (o.constants k) → h k c ≡ c) (v w : Valuation)
      (same : (x : ℕ) → In (Variable x) (terms_of (heads_of r)) → w x ≡ h (sort_of o r x) (v x)) where
    term_moved : (j : ℕ) (t : Term) → In (j, t) (sorted_rule_terms o r) → is_bound_in (heads_of r) t ≡ true
        → IsMoved o h v w j t
    term_moved j (Variable x) i b = same x (occurs_in x (heads_of r) b)
        ∙ ap (λ k. h k (v x)) (sym (fit.variables j x i))
    term_moved j (Constant c) i b = sym (fixes j c (fit.constants j c i))

    part_moved : (ps : List Pattern) → ((j : ℕ) (t : Term) → In (j, t) (sorted_terms o ps)
        → In (j, t) (sorted_rule_terms o r)) → list_all (λ p. list_all (is_bound_in (heads_of r)) p.args.items) ps
        ≡ true → map (move o h) (atoms_at v ps) ≡ atoms_at w ps
    part_moved ps inside known = atoms_moved o h v w ps
        (λ j t i. term_moved j t (inside j t i) (bound_in (heads_of r) ps known t (term_in o ps j t i)))

    pub carries : guard_holds w r.guard.items ≡ true → Carries (move o h) r v w
    carries guard = record {
      kept = part_moved r.kept.items (λ j t i. head_stands j t (kept_stand j t i)) (kept_known r);
      removed = part_moved r.removed.items (λ j t i. head_stands j t (removed_stand j t i)) (removed_known r);
      body = part_moved r.body.items body_stands (body_known r);
      guard = guard;
    }

  -- ---- values of a rule's instance

  module _ (d : Sets) (there : (k : ℕ) (c : ℤ) → In c (o.constants k) → d k c ≡ true) (v : Valuation)
      (heads : list_all (is_within o d) (heads_at v r) ≡ true) where
    -- a variable's value is in the set of its sort
    pub variable_within : (x : ℕ) → In (Variable x) (terms_of (heads_of r)) → d (sort_of o r x) (v x) ≡ true
    variable_within x i = terms_within o d v (heads_of r) heads (sort_of o r x) (Variable x) (stands_at_sort o r x i)

    term_within : (j : ℕ) (t : Term) → In (j, t) (sorted_rule_terms o r) → is_bound_in (heads_of r) t ≡ true
        → d j (term_value v t) ≡ true
    term_within j (Variable x) i b = ap (λ k. d k (v x)) (fit.variables j x i)
        ∙ variable_within x (occurs_in x (heads_of r) b)
    term_within j (Constant c) i b = there j c (fit.constants j c i)

    pub body_within : list_all (is_within o d) (atoms_at v r.body.items) ≡ true
    body_within = within_terms o d v r.body.items (λ j t i. term_within j t (body_stands j t i)
        (bound_in (heads_of r) r.body.items (body_known r) t (term_in o r.body.items j t i)))

    -- the guard's answers are those of the mapped values
    module _ (h : Map) (is : IsSortedMap o h d) where
      abbrev moved : Valuation
      moved x = h (sort_of o r x) (v x)

      answer : (c : Cmp) (t u : Term) → FitComparison o (sort_of o r) c t u → is_bound_in (heads_of r) t ≡ true
          → is_bound_in (heads_of r) u ≡ true → compares c (int_cmp (term_value v t) (term_value v u)) ≡ true
          → compares c (int_cmp (term_value moved t) (term_value moved u)) ≡ true
      answer c (Variable x) (Variable y) g b1 b2 a = elim (nat_eq x y) as (λ b. nat_eq x y ≡ b
          → compares c (int_cmp (moved x) (moved y)) ≡ true) [
            | true ↦ λ e. (let q = eqb-true x y e in subst (λ z. compares c (int_cmp (moved x) (moved z)) ≡ true) q
                (itself c (v x) (moved x) (subst (λ z. compares c (int_cmp (v x) (v z)) ≡ true) (sym q) a)))
            | false ↦ λ e. subst (λ k. compares c (int_cmp (moved x) (h k (v y))) ≡ true) g.0
                (answers_kept (o.kind (sort_of o r x)) c (h (sort_of o r x)) (d (sort_of o r x))
                (is.keeps (sort_of o r x))
                (g.1 (eqb-false x y e)) (v x) (v y) (variable_within x (occurs_in x (heads_of r) b1))
                (ap (λ k. d k (v y)) g.0 ∙ variable_within y (occurs_in y (heads_of r) b2)) a)
          ] refl
      answer c (Variable x) (Constant e) g b1 b2 a = subst (λ z. compares c (int_cmp (moved x) z) ≡ true)
          (is.fixes (sort_of o r x) e g.0)
          (answers_kept (o.kind (sort_of o r x)) c (h (sort_of o r x)) (d (sort_of o r x))
          (is.keeps (sort_of o r x)) g.1 (v x) e (variable_within x (occurs_in x (heads_of r) b1))
          (is.there (sort_of o r x) e g.0) a)
      answer c (Constant e) (Variable y) g b1 b2 a = subst (λ z. compares c (int_cmp z (moved y)) ≡ true)
          (is.fixes (sort_of o r y) e g.0)
          (answers_kept (o.kind (sort_of o r y)) c (h (sort_of o r y)) (d (sort_of o r y))
          (is.keeps (sort_of o r y)) g.1 e (v y) (is.there (sort_of o r y) e g.0)
          (variable_within y (occurs_in y (heads_of r) b2)) a)
      answer c (Constant e) (Constant e') g b1 b2 a = a

      pub guard_moved : guard_holds v r.guard.items ≡ true → guard_holds moved r.guard.items ≡ true
      guard_moved = guard_by v moved r.guard.items (λ c i. (
          let b = all_in (λ (k : Comparison). is_bound_in (heads_of r) k.left && is_bound_in (heads_of r) k.right)
          r.guard.items (guard_known r) c i in
          answer c.cmp c.left c.right (fit.compared c i) (and_parts _ _ b).0
          (and_parts (is_bound_in (heads_of r) c.left) _ b).1))

-- a guard that holds at the mapped values holds where its equations are met
module _ (o : Sorts) (r : Rule) (fit : FitRule o r) (h : Map) (d : Sets) (is : IsSortedMap o h d) (v w : Valuation)
    (same : (x : ℕ) → In (Variable x) (terms_of (heads_of r)) → w x ≡ h (sort_of o r x) (v x))
    (inside : (x : ℕ) → In (Variable x) (terms_of (heads_of r)) → d (sort_of o r x) (v x) ≡ true) where
  answer_back : (c : Cmp) (t u : Term) → FitComparison o (sort_of o r) c t u → is_bound_in (heads_of r) t ≡ true
      → is_bound_in (heads_of r) u ≡ true → (c ≡ Equal → term_value v t ≡ term_value v u)
      → compares c (int_cmp (term_value w t) (term_value w u)) ≡ true
      → compares c (int_cmp (term_value v t) (term_value v u)) ≡ true
  answer_back c (Variable x) (Variable y) g b1 b2 e a =
      elim (nat_eq x y) as (λ b. nat_eq x y ≡ b → compares c (int_cmp (v x) (v y)) ≡ true) [
        | true ↦ λ q. (let p = eqb-true x y q in subst (λ z. compares c (int_cmp (v x) (v z)) ≡ true) p
            (itself c (w x) (v x) (subst (λ z. compares c (int_cmp (w x) (w z)) ≡ true) (sym p) a)))
        | false ↦ λ q. answers_back (o.kind (sort_of o r x)) c (h (sort_of o r x)) (d (sort_of o r x))
            (is.keeps (sort_of o r x)) (g.1 (eqb-false x y q)) (v x) (v y) (inside x (occurs_in x (heads_of r) b1))
            (ap (λ k. d k (v y)) g.0 ∙ inside y (occurs_in y (heads_of r) b2)) e
            (ap (compares c) (λ i. int_cmp (sym (same x (occurs_in x (heads_of r) b1)) i)
            ((ap (λ k. h k (v y)) g.0 ∙ sym (same y (occurs_in y (heads_of r) b2))) i)) ∙ a)
      ] refl
  answer_back c (Variable x) (Constant n) g b1 b2 e a =
      answers_back (o.kind (sort_of o r x)) c (h (sort_of o r x)) (d (sort_of o r x)) (is.keeps (sort_of o r x)) g.1
      (v x) n (inside x (occurs_in x (heads_of r) b1)) (is.there (sort_of o r x) n g.0) e
      (ap (compares c) (λ i. int_cmp (sym (same x (occurs_in x (heads_of r) b1)) i) (is.fixes (sort_of o r x) n g.0 i))
      ∙ a)
  answer_back c (Constant n) (Variable y) g b1 b2 e a =
      answers_back (o.kind (sort_of o r y)) c (h (sort_of o r y)) (d (sort_of o r y)) (is.keeps (sort_of o r y)) g.1 n
      (v y) (is.there (sort_of o r y) n g.0) (inside y (occurs_in y (heads_of r) b2)) e
      (ap (compares c) (λ i. int_cmp (is.fixes (sort_of o r y) n g.0 i) (sym (same y (occurs_in y (heads_of r) b2)) i))
      ∙ a)
  answer_back c (Constant n) (Constant n') g b1 b2 e a = a

  pub guard_back : ((c : Comparison) → In c r.guard.items → c.cmp ≡ Equal → term_value v c.left ≡ term_value v c.right)
      → guard_holds w r.guard.items ≡ true → guard_holds v r.guard.items ≡ true
  guard_back met = guard_by w v r.guard.items (λ c i. (
      let b = all_in (λ (k : Comparison). is_bound_in (heads_of r) k.left && is_bound_in (heads_of r) k.right)
      r.guard.items (guard_known r) c i in
      answer_back c.cmp c.left c.right (fit.compared c i) (and_parts _ _ b).0
      (and_parts (is_bound_in (heads_of r) c.left) _ b).1 (met c i)))

-- ---- steps

heads_within : (o : Sorts) (d : Sets) (r : Rule) (v : Valuation) (s t : Store) → Each (is_within o d) s → StepBy r v s t
    → list_all (is_within o d) (heads_at v r) ≡ true
heads_within o d r v s t each st = list_of_each (is_within o d) (heads_at v r)
    (each_within (is_within o d) _ s st.there each)

pub sorts_stay : SortsStay
sorts_stay o d r v s t fit there each st =
    rw st.after (each_plus (is_within o d) _ _ (each_minus (is_within o d) s _ each)
    (each_of_list (is_within o d) _ (body_within o r fit d there v (heads_within o d r v s t each st))))

instance_carried : (o : Sorts) (h : Map) (d : Sets) (r : Rule) (v : Valuation) (s t : Store) → FitRule o r
    → IsSortedMap o h d → Each (is_within o d) s → StepBy r v s t
    → Carries (move o h) r v (λ x. h (sort_of o r x) (v x))
instance_carried o h d r v s t fit is each st =
    carries o r fit h is.fixes v (λ x. h (sort_of o r x) (v x)) (λ x i. refl)
    (guard_moved o r fit d is.there v (heads_within o d r v s t each st) h is st.guard)

pub sorted_steps : SortedStepsAreCarried
sorted_steps o h d r v s t fit is each st = step_carried (move o h) r v _ s t
    (instance_carried o h d r v s t fit is each st) st

pub carries_steps : (o : Sorts) (h : Map) (d : Sets) (rules : List Rule) → Fit o rules → IsSortedMap o h d
    → CarriesSteps (move o h) (is_within o d) rules
carries_steps o h d rules fit is = record {
  stays = λ s t each st. sorts_stay o d st.1 st.2 s t (fit st.0 st.1 st.3) is.there each st.4;
  carries = λ i r v s t at each st. (_, instance_carried o h d r v s t (fit i r at) is each st);
}

pub sorted_runs : SortedRunsAreCarried
sorted_runs o h d rules s t fit is each run = reaches_carried (move o h) (is_within o d) rules
    (carries_steps o h d rules fit is) s t each run

pub sorted_joins : SortedJoinsAreCarried
sorted_joins o h d rules t u fit is each other j = join_carried (move o h) (is_within o d) rules
    (carries_steps o h d rules fit is) t u each other j
