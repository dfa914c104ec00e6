-- The joint valuations that values of the free classes make.
use Rattle.std.specs.Prelude.{◌≡◌, ℕ, zero, suc, ℤ, ◌+◌, ◌<◌, ◌≤◌, Bool, true, false, cond, nat_eq, List, [], ◌∷◌, ◌++◌}
use Rattle.std.specs.Prelude.{◌⊎◌, map, length, Some, slice_get, get_or}
use mathlib.Core.Bool.{true≢false}
use Rattle.std.specs.List.{filter, range_with_len, zip}
use Rattle.std.proofs.Common.{refl, sym, ap, subst, ◌∙◌, inl, inr, arith}
use Rattle.std.proofs.lemmas.Bool.{eqb-true, eqb-false, eq-eqb}
use Rattle.chr_base.specs.declared.term.Term.{Term}
use Rattle.chr_base.specs.declared.term.Term.TheVariants.{Variable, Constant}
use Rattle.chr_base.specs.declared.term.Pattern.{Pattern}
use Rattle.chr_base.specs.declared.rule.Rule.{Rule}
use Rattle.chr_base.specs.RuleTests.{terms_of, is_variable}
use Rattle.chr_base.specs.Rules.{Valuation, term_value, heads_of, no_pattern}
use Rattle.std.proofs.lemmas.List.{length-map}
use Rattle.chr_types.specs.OrderTypes.{In, SameType}
use Rattle.chr_confluence.specs.Unifiers.{Substitution, IsInstanceOf, IsMostGeneralUnifier}
use Rattle.chr_confluence.specs.Overlaps.{variables_of, renamed_apart, equations, equations_of}
use Rattle.chr_confluence.specs.Constants.{IsConstantOf, AreConstants, guard_terms}
use Rattle.chr_confluence.specs.Representatives.{free_variables, assignment, instance_at}
use Rattle.chr_confluence.proofs.Solving.{same_variable}
use Rattle.chr_confluence.specs.laws.Unification.{equation_terms}
use Rattle.chr_confluence.proofs.Solutions.{terms_stand}
use Rattle.chr_types.proofs.Members.{in_first, in_second}
use Rattle.chr_confluence.proofs.Numbered.{head_variable}
use Rattle.chr_confluence.proofs.Images.{image, image-constant, map-image, among-constant, among-value}
use Rattle.chr_confluence.specs.Rising.{among}

-- ---- which classes are free

pub in_range : (a n y : ℕ) → a ≤ y → y < a + n → In y (range_with_len a n)
in_range a zero y l g = absurd (omega (arith, l, g))
in_range a (suc n) y l g = elim (nat_eq y a) as (λ b. nat_eq y a ≡ b → (y ≡ a) ⊎ In y (range_with_len (a + 1) n)) [
  | true ↦ λ e. inl (eqb-true y a e)
  | false ↦ λ e. inr (in_range (a + 1) n y (let q = eqb-false y a e in omega (arith, q, l)) (omega (arith, g)))
] refl

pub range_in : (a n y : ℕ) → In y (range_with_len a n) → (a ≤ y) × (y < a + n)
range_in a zero y i = absurd i
range_in a (suc n) y (inl e) = (omega (arith, e), omega (arith, e))
range_in a (suc n) y (inr i) = let h = range_in (a + 1) n y i in let l = h.0 in let g = h.1 in
    (omega (arith, l), omega (arith, g))

pub in_filter : {A : Type 0} (p : A → Bool) (x : A) (xs : List A) → In x xs → p x ≡ true → In x (filter p xs)
in_filter p x [] i h = absurd i
in_filter p x (y ∷ xs) (inl e) h = let t : p y ≡ true = ap p (sym e) ∙ h in
    subst (λ b. In x (cond b (y ∷ filter p xs) (filter p xs))) (sym t) (inl e)
in_filter p x (y ∷ xs) (inr i) h = elim (p y) as (λ b. In x (cond b (y ∷ filter p xs) (filter p xs)))
    [ true ↦ inr (in_filter p x xs i h) | false ↦ in_filter p x xs i h ]

pub filter_in : {A : Type 0} (p : A → Bool) (x : A) (xs : List A) → In x (filter p xs) → In x xs × (p x ≡ true)
filter_in p x [] i = absurd i
filter_in p x (y ∷ xs) i = elim (p y) as (λ b. p y ≡ b → In x (cond b (y ∷ filter p xs) (filter p xs)) → In x (y ∷ xs)
    × (p x ≡ true)) [
      | true ↦ λ e i. elim i as (λ _. In x (y ∷ xs) × (p x ≡ true))
          [ inl q ↦ (inl q, ap p q ∙ e) | inr j ↦ (let h = filter_in p x xs j in (inr h.0, h.1)) ]
      | false ↦ λ e i. (let h = filter_in p x xs i in (inr h.0, h.1))
    ] refl i

pub own_is : (x : ℕ) (t : Term) → is_variable x t ≡ true → t ≡ Variable x
own_is x (Variable y) h = ap Variable (sym (eqb-true x y h))
own_is x (Constant c) h = absurd (true≢false (sym h))

pub is_free : (σ : Substitution) (r1 r2 : Rule) (x : ℕ) → 0 < x → x ≤ variables_of r1 + variables_of r2
    → σ x ≡ Variable x → In x (free_variables σ r1 r2)
is_free σ r1 r2 x l g e =
    in_filter (λ y. is_variable y (σ y)) x (range_with_len 1 (variables_of r1 + variables_of r2))
    (in_range 1 (variables_of r1 + variables_of r2) x (omega (arith, l)) (omega (arith, g)))
    (ap (is_variable x) e ∙ eq-eqb x x refl)

pub free_is : (σ : Substitution) (r1 r2 : Rule) (x : ℕ) → In x (free_variables σ r1 r2) → (0 < x)
    × (x ≤ variables_of r1 + variables_of r2) × (σ x ≡ Variable x)
free_is σ r1 r2 x i =
    let h = filter_in (λ y. is_variable y (σ y)) x (range_with_len 1 (variables_of r1 + variables_of r2)) i in
    let g = range_in 1 (variables_of r1 + variables_of r2) x h.0 in
    let l = g.0 in let u = g.1 in
    (omega (arith, l), omega (arith, u), own_is x (σ x) h.1)

-- ---- the terms of the equations stand in the heads

pub in_map : {A B : Type 0} (f : A → B) (y : B) (xs : List A) → In y (map f xs) → (x : A) × In x xs × (y ≡ f x)
in_map f y [] i = absurd i
in_map f y (x ∷ xs) (inl e) = (x, inl refl, e)
in_map f y (x ∷ xs) (inr i) = let h = in_map f y xs i in (h.0, inr h.1, h.2)

sides_either : (t : Term) (es fs : List (Term × Term)) → In t (equation_terms (es ++ fs)) → In t (equation_terms es)
    ⊎ In t (equation_terms fs)
sides_either t [] fs i = inr i
sides_either t (e ∷ es) fs (inl q) = inl (inl q)
sides_either t (e ∷ es) fs (inr (inl q)) = inl (inr (inl q))
sides_either t (e ∷ es) fs (inr (inr i)) = elim (sides_either t es fs i) as (λ _. In t (equation_terms (e ∷ es))
    ⊎ In t (equation_terms fs)) [ inl j ↦ inl (inr (inr j)) | inr j ↦ inr j ]

of_pairs : (t : Term) (ts us : List Term) → In t (equation_terms (zip ts us)) → In t ts ⊎ In t us
of_pairs t [] us i = absurd i
of_pairs t (s ∷ ts) [] i = absurd i
of_pairs t (s ∷ ts) (u ∷ us) (inl q) = inl (inl q)
of_pairs t (s ∷ ts) (u ∷ us) (inr (inl q)) = inr (inl q)
of_pairs t (s ∷ ts) (u ∷ us) (inr (inr i)) = elim (of_pairs t ts us i) as (λ _. In t (s ∷ ts) ⊎ In t (u ∷ us))
    [ inl j ↦ inl (inr j) | inr j ↦ inr (inr j) ]

of_pattern : (t : Term) (qs : List Pattern) (e : ℕ) → In t (get_or qs e no_pattern).args.items → In t (terms_of qs)
of_pattern t [] e i = absurd i
of_pattern t (q ∷ qs) zero i = in_first t q.args.items (terms_of qs) i
of_pattern t (q ∷ qs) (suc e) i = in_second t q.args.items (terms_of qs) (of_pattern t qs e i)

-- a term of the first heads, or a renamed_apart one of the second
abbrev Stands : ℕ → List Pattern → List Pattern → Term → Type 0
Stands k qs ps t = In t (terms_of ps) ⊎ ((u : Term) × In u (terms_of qs) × (t ≡ renamed_apart k u))

of_equations : (k : ℕ) (qs : List Pattern) (m : List ℕ) (ps : List Pattern) (t : Term)
    → In t (equation_terms (equations k qs m ps)) → Stands k qs ps t
of_equations k qs [] ps t i = absurd i
of_equations k qs (e ∷ m) [] t i = absurd i
of_equations k qs (zero ∷ m) (p ∷ ps) t i = elim (of_equations k qs m ps t i) as (λ _. Stands k qs (p ∷ ps) t)
    [ inl j ↦ inl (in_second t p.args.items (terms_of ps) j) | inr h ↦ inr h ]
of_equations k qs (suc e ∷ m) (p ∷ ps) t i = elim (sides_either t
    (zip p.args.items (map (renamed_apart k) (get_or qs e no_pattern).args.items)) (equations k qs m ps) i) as (λ _.
    Stands k qs (p ∷ ps) t) [
      | inl j ↦ elim (of_pairs t p.args.items (map (renamed_apart k) (get_or qs e no_pattern).args.items) j) as (λ _.
          Stands k qs (p ∷ ps) t) [
            | inl h ↦ inl (in_first t p.args.items (terms_of ps) h)
            | inr h ↦ (let w = in_map (renamed_apart k) t (get_or qs e no_pattern).args.items h in
                inr (w.0, of_pattern w.0 qs e w.1, w.2))
          ]
      | inr j ↦ elim (of_equations k qs m ps t j) as (λ _. Stands k qs (p ∷ ps) t)
          [ inl h ↦ inl (in_second t p.args.items (terms_of ps) h) | inr h ↦ inr h ]
    ]

pub head_constant : (rules : List Rule) (i : ℕ) (r : Rule) → slice_get rules i ≡ Some r → (c : ℤ)
    → In (Constant c) (terms_of (heads_of r)) → IsConstantOf rules c
head_constant rules i r at c h = (
  i,
  r,
  at,
  in_first (Constant c) (terms_of (heads_of r) ++ guard_terms r.guard.items)
      (terms_of r.body.items) (in_first (Constant c) (terms_of (heads_of r)) (guard_terms r.guard.items) h),
)

-- ---- values assignment classes

beside_map : (f : ℤ → ℤ) (fs : List ℕ) (zs : List ℤ) (y : ℕ) → length fs ≡ length zs → In y fs → f (assignment fs zs y)
    ≡ assignment fs (map f zs) y
beside_map f [] zs y e i = absurd i
beside_map f (x ∷ fs) [] y e i = absurd (omega (arith, e))
beside_map f (x ∷ fs) (z ∷ zs) y e i = elim (nat_eq y x) as (λ b. nat_eq y x ≡ b → f (cond b z (assignment fs zs y))
    ≡ cond b (f z) (assignment fs (map f zs) y)) [
      | true ↦ λ _. refl
      | false ↦ λ t. beside_map f fs zs y (omega (arith, e))
          (elim i as (λ _. In y fs) [ inl q ↦ absurd (eqb-false y x t q) | inr j ↦ j ])
    ] refl

beside_own : (w : Valuation) (fs : List ℕ) (y : ℕ) → In y fs → assignment fs (map w fs) y ≡ w y
beside_own w [] y i = absurd i
beside_own w (x ∷ fs) y i =
    elim (nat_eq y x) as (λ b. nat_eq y x ≡ b → cond b (w x) (assignment fs (map w fs) y) ≡ w y) [
      | true ↦ λ t. ap w (sym (eqb-true y x t))
      | false ↦ λ t. beside_own w fs y (elim i as (λ _. In y fs) [ inl q ↦ absurd (eqb-false y x t q) | inr j ↦ j ])
    ] refl

pub beside_in : (fs : List ℕ) (zs : List ℤ) (y : ℕ) → length fs ≡ length zs → In y fs → In (assignment fs zs y) zs
beside_in [] zs y e i = absurd i
beside_in (x ∷ fs) [] y e i = absurd (omega (arith, e))
beside_in (x ∷ fs) (z ∷ zs) y e i = elim (nat_eq y x) as (λ b. nat_eq y x ≡ b → In (cond b z (assignment fs zs y))
    (z ∷ zs)) [
      | true ↦ λ _. inl refl
      | false ↦ λ t. inr (beside_in fs zs y (omega (arith, e))
          (elim i as (λ _. In y fs) [ inl q ↦ absurd (eqb-false y x t q) | inr j ↦ j ]))
    ] refl

-- ---- the classes of the heads' variables

module _ (rules : List Rule) (i j : ℕ) (r1 r2 : Rule) (at1 : slice_get rules i ≡ Some r1)
    (at2 : slice_get rules j ≡ Some r2) (m : List ℕ) (σ : Substitution)
    (solves : IsMostGeneralUnifier σ (equations_of r1 r2 m)) where
  -- a constant of the rules, or a free class
  abbrev Classified : Term → Type 0
  Classified t = ((c : ℤ) × (t ≡ Constant c) × IsConstantOf rules c)
      ⊎ ((y : ℕ) × (t ≡ Variable y) × In y (free_variables σ r1 r2))

  stands_variable : (y : ℕ) → In (Variable y) (equation_terms (equations_of r1 r2 m)) → (0 < y)
      × (y ≤ variables_of r1 + variables_of r2)
  stands_variable y h = elim (of_equations (variables_of r1) (heads_of r2) m (heads_of r1) (Variable y) h) as (λ _.
      (0 < y) × (y ≤ variables_of r1 + variables_of r2)) [
        | inl k ↦ (let g = head_variable r1 y k in let l = g.1 in (g.0, omega (arith, l)))
        | inr p ↦ by p.0 p.1 p.2
      ]
    where
      by : (u : Term) → In u (terms_of (heads_of r2)) → Variable y ≡ renamed_apart (variables_of r1) u → (0 < y)
          × (y ≤ variables_of r1 + variables_of r2)
      by (Variable x) k e = let g = head_variable r2 x k in let q = same_variable y (variables_of r1 + x) e in let l =
          g.0 in let u = g.1 in (omega (arith, q, l), omega (arith, q, u))
      by (Constant c) k e = absurd cc

  stands_constant : (c : ℤ) → In (Constant c) (equation_terms (equations_of r1 r2 m)) → IsConstantOf rules c
  stands_constant c h = elim (of_equations (variables_of r1) (heads_of r2) m (heads_of r1) (Constant c) h) as (λ _.
      IsConstantOf rules c) [
        | inl k ↦ head_constant rules i r1 at1 c k
        | inr p ↦ by p.0 p.1 p.2
      ]
    where
      by : (u : Term) → In u (terms_of (heads_of r2)) → Constant c ≡ renamed_apart (variables_of r1) u
          → IsConstantOf rules c
      by (Variable x) k e = absurd cc
      by (Constant d) k e = let q : Constant d ≡ Constant c = sym e in
          head_constant rules j r2 at2 c (subst (λ t. In t (terms_of (heads_of r2))) q k)

  pub classified : (x : ℕ) → 0 < x → x ≤ variables_of r1 + variables_of r2 → Classified (σ x)
  classified x l g = elim (terms_stand σ (equations_of r1 r2 m) solves x) as (λ _. Classified (σ x)) [
    | inl e ↦ inr (x, e, is_free σ r1 r2 x l g e)
    | inr h ↦ by (σ x) refl h.1
  ]
    where
      by : (t : Term) → σ x ≡ t → In t (equation_terms (equations_of r1 r2 m)) → Classified t
      by (Constant c) e h = inl (c, refl, stands_constant c h)
      by (Variable y) e h = let s = stands_variable y h in
          inr (y, refl, is_free σ r1 r2 y s.0 s.1 (solves.classes.own x y e))

  module _ (cs : List ℤ) (constants : AreConstants rules cs) (w : Valuation) (on : IsInstanceOf σ w) (zs : List ℤ)
      (type : SameType cs zs (map w (free_variables σ r1 r2))) where
    counts : length (free_variables σ r1 r2) ≡ length zs
    counts = sym (length-map (free_variables σ r1 r2) w) ∙ sym type.count

    -- the map between the two lists carries the joint valuation of the one to that of the other
    pub carried : (x : ℕ) → 0 < x → x ≤ variables_of r1 + variables_of r2
        → image (zip zs (map w (free_variables σ r1 r2))) (instance_at σ (free_variables σ r1 r2) zs x) ≡ w x
    carried x l g = elim (classified x l g) as (λ _. image (zip zs (map w (free_variables σ r1 r2)))
        (instance_at σ (free_variables σ r1 r2) zs x) ≡ w x) [
          | inl h ↦ ap (image (zip zs (map w (free_variables σ r1 r2))))
              (ap (term_value (assignment (free_variables σ r1 r2) zs)) h.1)
              ∙ image-constant cs zs (map w (free_variables σ r1 r2)) type h.0 (constants.all h.0 h.2)
              ∙ sym (on x ∙ ap (term_value w) h.1)
          | inr h ↦ ap (image (zip zs (map w (free_variables σ r1 r2))))
              (ap (term_value (assignment (free_variables σ r1 r2) zs)) h.1)
              ∙ beside_map (image (zip zs (map w (free_variables σ r1 r2)))) (free_variables σ r1 r2) zs h.0 counts h.2
              ∙ ap (λ vs. assignment (free_variables σ r1 r2) vs h.0)
              (map-image cs zs (map w (free_variables σ r1 r2)) type)
              ∙ beside_own w (free_variables σ r1 r2) h.0 h.2
              ∙ sym (on x ∙ ap (term_value w) h.1)
        ]

    -- each variable's value is among the representative's values and the constants
    pub within : (x : ℕ) → 0 < x → x ≤ variables_of r1 + variables_of r2
        → among (zip zs (map w (free_variables σ r1 r2))) cs (instance_at σ (free_variables σ r1 r2) zs x) ≡ true
    within x l g = elim (classified x l g) as (λ _. among (zip zs (map w (free_variables σ r1 r2))) cs
        (instance_at σ (free_variables σ r1 r2) zs x) ≡ true) [
          | inl h ↦ ap (among (zip zs (map w (free_variables σ r1 r2))) cs)
              (ap (term_value (assignment (free_variables σ r1 r2) zs)) h.1)
              ∙ among-constant cs zs (map w (free_variables σ r1 r2)) type h.0 (constants.all h.0 h.2)
          | inr h ↦ ap (among (zip zs (map w (free_variables σ r1 r2))) cs)
              (ap (term_value (assignment (free_variables σ r1 r2) zs)) h.1)
              ∙ among-value cs zs (map w (free_variables σ r1 r2)) type (assignment (free_variables σ r1 r2) zs h.0)
              (beside_in (free_variables σ r1 r2) zs h.0 counts h.2)
        ]
