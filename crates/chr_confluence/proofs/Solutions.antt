-- What every most general unifier of equations has, however it was found.
use Rattle.std.specs.Prelude.{◌≡◌, ℕ, ℤ, pos, ◌+ℤ◌, ◌≤◌, true, false, cond, List, [], ◌∷◌, ◌⊎◌, nat_eq}
use mathlib.Core.Bool.{true≢false}
use Rattle.std.proofs.Common.{refl, sym, ap, subst, ◌∙◌, inl, inr, arith}
use Rattle.std.proofs.lemmas.Int.{ints}
use Rattle.std.proofs.lemmas.Bool.Decides.{Decides-int_eq}
use Rattle.std.proofs.lemmas.Bool.{eqb-true, eqb-false, eq-eqb}
use Rattle.std.specs.Ordering.{int_eq}
use Rattle.chr_base.specs.declared.term.Term.{Term}
use Rattle.chr_base.specs.declared.term.Term.TheVariants.{Variable, Constant}
use Rattle.chr_base.specs.Rules.{Valuation, term_value}
use Rattle.chr_types.specs.OrderTypes.{In}
use Rattle.chr_confluence.specs.Unifiers.{Unifies, Substitution, IsInstanceOf, AreClasses, IsMostGeneralUnifier}
use Rattle.chr_confluence.proofs.Solving.{same_variable}
use Rattle.chr_confluence.specs.laws.Unification.{equation_terms, OneUnifier}

-- ---- valuations that are constant on classes

-- any value for each class
abbrev pub spread : Substitution → Valuation → Valuation
spread σ f x = term_value f (σ x)

pub spread_constant : (σ : Substitution) (f : Valuation) → AreClasses σ → IsInstanceOf σ (spread σ f)
spread_constant σ f is x = by (σ x) refl
  where
    by : (t : Term) → σ x ≡ t → term_value f t ≡ term_value (spread σ f) t
    by (Variable y) e = sym (ap (term_value f) (is.own x y e))
    by (Constant c) e = refl

-- ---- the equations determine the classes

one_side : (σ τ : Substitution) → AreClasses τ → ((v : Valuation) → IsInstanceOf τ v → IsInstanceOf σ v)
    → (x : ℕ) (f : Valuation) → term_value f (τ x) ≡ term_value (spread τ f) (σ x)
one_side σ τ is on x f = on (spread τ f) (spread_constant τ f is) x

before : (τ : Substitution) → AreClasses τ → (y z : ℕ) → ((f : Valuation) → f z ≡ term_value f (τ y)) → z ≤ y
before τ is y z h = by (τ y) refl h
  where
    by : (t : Term) → τ y ≡ t → ((f : Valuation) → f z ≡ term_value f t) → z ≤ y
    by (Constant d) e h = let p = h (λ _. d +ℤ pos 1) in absurd (omega (arith, ints, p))
    by (Variable w) e h = let p = h (λ n. pos n) in let f = is.first y w e in omega (arith, ints, p, f)

module _ (σ τ : Substitution) (a : AreClasses σ) (b : AreClasses τ)
    (to : (v : Valuation) → IsInstanceOf τ v → IsInstanceOf σ v)
    (from : (v : Valuation) → IsInstanceOf σ v → IsInstanceOf τ v) where
  same_by : (x : ℕ) (s t : Term) → σ x ≡ s → τ x ≡ t → s ≡ t
  same_by x (Constant c) (Constant d) e g =
      let q : d ≡ c = ap (term_value (λ _. pos 0)) (sym g) ∙ one_side σ τ b to x (λ _. pos 0)
      ∙ ap (term_value (spread τ (λ _. pos 0))) e in ap Constant (sym q)
  same_by x (Constant c) (Variable z) e g =
      let q : c +ℤ pos 1 ≡ c = ap (term_value (λ _. c +ℤ pos 1)) (sym g) ∙ one_side σ τ b to x (λ _. c +ℤ pos 1)
      ∙ ap (term_value (spread τ (λ _. c +ℤ pos 1))) e in absurd (omega (arith, ints, q))
  same_by x (Variable z) (Constant d) e g =
      let q : d +ℤ pos 1 ≡ d = ap (term_value (λ _. d +ℤ pos 1)) (sym e) ∙ one_side τ σ a from x (λ _. d +ℤ pos 1)
      ∙ ap (term_value (spread σ (λ _. d +ℤ pos 1))) g in absurd (omega (arith, ints, q))
  same_by x (Variable y) (Variable z) e g =
      let p = before τ b y z (λ f. ap (term_value f) (sym g) ∙ one_side σ τ b to x f
      ∙ ap (term_value (spread τ f)) e) in
      let q = before σ a z y (λ f. ap (term_value f) (sym e) ∙ one_side τ σ a from x f
      ∙ ap (term_value (spread σ f)) g) in
      ap Variable (omega (arith, p, q))

  pub same_classes : (x : ℕ) → σ x ≡ τ x
  same_classes x = same_by x (σ x) (τ x) refl refl

pub one_solution : OneUnifier
one_solution σ τ es a b x = same_classes σ τ a.classes b.classes (λ v h. a.meets v (b.met v h))
    (λ v h. b.meets v (a.met v h)) x

-- ---- where the classes' terms come from

pub same_constant : (x y : ℤ) → Constant x ≡ Constant y → x ≡ y
same_constant x y e = cc

alike : (s t : Term) → (s ≡ t) ⊎ (s ≡ t → ⊥)
alike (Variable x) (Variable y) = elim (nat_eq x y) as (λ b. nat_eq x y ≡ b → (Variable x ≡ Variable y)
    ⊎ (Variable x ≡ Variable y → ⊥)) [
      | true ↦ λ e. inl (ap Variable (eqb-true x y e))
      | false ↦ λ e. inr (λ q. eqb-false x y e (same_variable x y q))
    ] refl
alike (Variable x) (Constant d) = inr (λ e. cc)
alike (Constant c) (Variable y) = inr (λ e. cc)
alike (Constant c) (Constant d) = elim (int_eq c d) as (λ b. int_eq c d ≡ b → (Constant c ≡ Constant d)
    ⊎ (Constant c ≡ Constant d → ⊥)) [
      | true ↦ λ e. inl (ap Constant ((Decides-int_eq c d).0 e))
      | false ↦ λ e. inr (λ q. true≢false (sym ((Decides-int_eq c d).1 (same_constant c d q)) ∙ e))
    ] refl

stands : (t : Term) (ts : List Term) → In t ts ⊎ (In t ts → ⊥)
stands t [] = inr (λ i. i)
stands t (u ∷ ts) = elim (alike t u) as (λ _. ((t ≡ u) ⊎ In t ts) ⊎ ((t ≡ u) ⊎ In t ts → ⊥)) [
  | inl e ↦ inl (inl e)
  | inr n ↦ elim (stands t ts) as (λ _. ((t ≡ u) ⊎ In t ts) ⊎ ((t ≡ u) ⊎ In t ts → ⊥)) [
    | inl i ↦ inl (inr i)
    | inr k ↦ inr (λ i. elim i as (λ _. ⊥) [ inl e ↦ n e | inr j ↦ k j ])
  ]
]

-- a change of values that the equations do not see
meets_moved : (g : ℤ → ℤ) (v w : Valuation) (es : List (Term × Term))
    → ((t : Term) → In t (equation_terms es) → term_value w t ≡ g (term_value v t)) → Unifies v es → Unifies w es
meets_moved g v w [] h m = tt
meets_moved g v w (e ∷ es) h m = (
  h e.0 (inl refl) ∙ ap g m.0 ∙ sym (h e.1 (inr (inl refl))),
  meets_moved g v w es
      (λ t i. h t (inr (inr i))) m.1,
)

-- the valuation with one more at y
bump : ℕ → Valuation → Valuation
bump y v x = cond (nat_eq x y) (v x +ℤ pos 1) (v x)

bump_same : (y : ℕ) (v : Valuation) → bump y v y ≡ v y +ℤ pos 1
unfolding bump
bump_same y v = ap (λ b. cond b (v y +ℤ pos 1) (v y)) (eq-eqb y y refl)

bump_other : (y : ℕ) (v : Valuation) (x : ℕ) → (x ≡ y → ⊥) → bump y v x ≡ v x
unfolding bump
bump_other y v x n = elim (nat_eq x y) as (λ b. nat_eq x y ≡ b → cond b (v x +ℤ pos 1) (v x) ≡ v x)
    [ true ↦ λ e. absurd (n (eqb-true x y e)) | false ↦ λ e. refl ] refl

-- the value with one more if it is c
lift : ℤ → ℤ → ℤ
lift c z = cond (int_eq z c) (z +ℤ pos 1) z

lift_same : (c : ℤ) → lift c c ≡ c +ℤ pos 1
unfolding lift
lift_same c = ap (λ b. cond b (c +ℤ pos 1) c) ((Decides-int_eq c c).1 refl)

lift_other : (c z : ℤ) → (z ≡ c → ⊥) → lift c z ≡ z
unfolding lift
lift_other c z n = elim (int_eq z c) as (λ b. int_eq z c ≡ b → cond b (z +ℤ pos 1) z ≡ z)
    [ true ↦ λ e. absurd (n ((Decides-int_eq z c).0 e)) | false ↦ λ e. refl ] refl

module _ (σ : Substitution) (es : List (Term × Term)) (solves : IsMostGeneralUnifier σ es) where
  zeros : Valuation
  zeros = spread σ (λ _. pos 0)

  on_zeros : IsInstanceOf σ zeros
  unfolding zeros
  on_zeros = spread_constant σ (λ _. pos 0) solves.classes

  bumped : (y : ℕ) → (In (Variable y) (equation_terms es) → ⊥) → IsInstanceOf σ (bump y zeros)
  bumped y n = solves.meets (bump y zeros) (meets_moved (λ z. z) zeros (bump y zeros) es same
      (solves.met zeros on_zeros))
    where
      same : (t : Term) → In t (equation_terms es) → term_value (bump y zeros) t ≡ term_value zeros t
      same (Variable x) i = bump_other y zeros x (λ e. n (subst (λ w. In (Variable w) (equation_terms es)) e i))
      same (Constant c) i = refl

  lifted : (c : ℤ) → (In (Constant c) (equation_terms es) → ⊥) → IsInstanceOf σ (λ x. lift c (zeros x))
  lifted c n = solves.meets _ (meets_moved (lift c) zeros _ es same (solves.met zeros on_zeros))
    where
      same : (t : Term) → In t (equation_terms es) → term_value (λ x. lift c (zeros x)) t ≡ lift c (term_value zeros t)
      same (Variable x) i = refl
      same (Constant d) i = sym (lift_other c d (λ e. n (subst (λ z. In (Constant z) (equation_terms es)) e i)))

  here : (x : ℕ) (t : Term) → σ x ≡ t → (t ≡ Variable x → ⊥) → In (Variable x) (equation_terms es)
  here x t e n = elim (stands (Variable x) (equation_terms es)) as (λ _. In (Variable x) (equation_terms es)) [
    | inl i ↦ i
    | inr k ↦ absurd (by t e n (bumped x k x ∙ ap (term_value (bump x zeros)) e) (on_zeros x ∙ ap (term_value zeros) e))
  ]
    where
      by : (t : Term) → σ x ≡ t → (t ≡ Variable x → ⊥) → bump x zeros x ≡ term_value (bump x zeros) t → zeros x
          ≡ term_value zeros t → ⊥
      by (Constant c) e n p q = let s = bump_same x zeros in omega (arith, ints, p, q, s)
      by (Variable a) e n p q = let s = bump_same x zeros in let o = bump_other x zeros a (λ d. n (ap Variable d)) in
          omega (arith, ints, p, q, s, o)

  there : (x : ℕ) (t : Term) → σ x ≡ t → (t ≡ Variable x → ⊥) → In t (equation_terms es)
  there x (Constant c) e n = elim (stands (Constant c) (equation_terms es)) as (λ _. In (Constant c)
      (equation_terms es)) [
        | inl i ↦ i
        | inr k ↦ (let p : lift c (zeros x) ≡ c = lifted c k x ∙ ap (term_value (λ x. lift c (zeros x))) e in
            let q : zeros x ≡ c = on_zeros x ∙ ap (term_value zeros) e in
            let s : c +ℤ pos 1 ≡ c = sym (lift_same c) ∙ ap (lift c) (sym q) ∙ p in
            absurd (omega (arith, ints, s)))
      ]
  there x (Variable a) e n = elim (stands (Variable a) (equation_terms es)) as (λ _. In (Variable a)
      (equation_terms es)) [
        | inl i ↦ i
        | inr k ↦ (let p : bump a zeros x ≡ bump a zeros a = bumped a k x ∙ ap (term_value (bump a zeros)) e in
            let q : zeros x ≡ zeros a = on_zeros x ∙ ap (term_value zeros) e in
            let s = bump_same a zeros in
            let o = bump_other a zeros x (λ d. n (ap Variable (sym d))) in
            absurd (omega (arith, ints, p, q, s, o)))
      ]

  -- a variable that does not stand for itself is a term of the equations, and the term that it stands for is one
  pub terms_stand : (x : ℕ) → (σ x ≡ Variable x) ⊎ (In (Variable x) (equation_terms es) × In (σ x) (equation_terms es))
  terms_stand x = elim (alike (σ x) (Variable x)) as (λ _. (σ x ≡ Variable x)
      ⊎ (In (Variable x) (equation_terms es) × In (σ x) (equation_terms es))) [
        | inl e ↦ inl e
        | inr n ↦ inr (here x (σ x) refl n, there x (σ x) refl n)
      ]
