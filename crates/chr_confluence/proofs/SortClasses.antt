-- Each class of the unifier is of one sort, and a constant that binds one is a constant of its sort.
use Rattle.std.specs.Prelude.{◌≡◌, ℕ, ℤ, pos, ◌+ℤ◌, ◌<ℤ◌, ◌+◌, ◌<◌, ◌≤◌, true, false, ◌⊎◌, cond, nat_eq, List, [], ◌∷◌}
use Rattle.std.proofs.Common.{refl, sym, ap, subst, ◌∙◌, inl, inr, arith}
use Rattle.std.proofs.lemmas.Int.{ints}
use Rattle.std.proofs.lemmas.Bool.{eqb-true, eqb-false, eq-eqb}
use Rattle.chr_base.specs.declared.term.Term.{Term}
use Rattle.chr_base.specs.declared.term.Term.TheVariants.{Variable, Constant}
use Rattle.chr_base.specs.declared.rule.Rule.{Rule}
use Rattle.chr_base.specs.Rules.{Valuation, term_value}
use Rattle.chr_base.specs.Values.{is_value}
use Rattle.chr_types.specs.OrderTypes.{In}
use Rattle.chr_types.specs.working.Search.{has}
use Rattle.chr_types.proofs.Holes.{has_in, has_not}
use Rattle.chr_types.proofs.Bases.{apart}
use Rattle.chr_confluence.specs.Unifiers.{Substitution, Unifies, IsInstanceOf, IsMostGeneralUnifier}
use Rattle.chr_confluence.specs.Overlaps.{IsMatching, variables_of}
use Rattle.chr_confluence.specs.Representatives.{free_variables}
use Rattle.chr_confluence.specs.laws.Unification.{equation_terms}
use Rattle.chr_confluence.proofs.Solutions.{spread, spread_constant, terms_stand}
use Rattle.chr_confluence.proofs.Frees.{is_free}
use Rattle.chr_confluence.specs.Sorts.{Sorts}
use Rattle.chr_confluence.specs.SortMaps.{Map}
use Rattle.chr_confluence.specs.SortedCases.{all_equations}
use Rattle.chr_confluence.proofs.SortEquations.{unifies_from, unifies_at, Ranged, all_ranged, Alike}

-- ---- values mapped sort by sort meet the same equations

module _ (o : Sorts) (at : ℕ → ℕ) (h : Map) (fixes : (k : ℕ) (c : ℤ) → In c (o.constants k) → h k c ≡ c)
    (v : Valuation) where
  abbrev mapped : Valuation
  mapped x = h (at x) (v x)

  meets_mapped : (t u : Term) → Alike o at t u → term_value v t ≡ term_value v u → term_value mapped t
      ≡ term_value mapped u
  meets_mapped (Variable x) (Variable y) a e = λ i. h (a i) (e i)
  meets_mapped (Variable x) (Constant d) a e = ap (h (at x)) e ∙ fixes (at x) d a
  meets_mapped (Constant c) (Variable y) a e = sym (fixes (at y) c a) ∙ ap (h (at y)) e
  meets_mapped (Constant c) (Constant d) a e = e

  pub mapped_unifies : (es : List (Term × Term)) → ((e : Term × Term) → In e es → Alike o at e.0 e.1) → Unifies v es
      → Unifies mapped es
  mapped_unifies es alike g = unifies_from mapped es (λ e i. meets_mapped e.0 e.1 (alike e i) (unifies_at v es g e i))

-- ---- at one sort, one more for each value that is no constant of it

shift : Sorts → ℕ → Map
shift o s k z = cond (nat_eq k s) (cond (has z (o.constants s)) z (z +ℤ pos 1)) z

shift_fixes : (o : Sorts) (s k : ℕ) (c : ℤ) → In c (o.constants k) → shift o s k c ≡ c
unfolding shift
shift_fixes o s k c i = elim (nat_eq k s) as (λ b. nat_eq k s ≡ b
    → cond b (cond (has c (o.constants s)) c (c +ℤ pos 1)) c ≡ c) [
      | true ↦ λ e. elim (has c (o.constants s)) as (λ b. has c (o.constants s) ≡ b → cond b c (c +ℤ pos 1) ≡ c) [
        | true ↦ λ _. refl
        | false ↦ λ n. absurd (has_not c (o.constants s) n (subst (λ j. In c (o.constants j)) (eqb-true k s e) i))
      ] refl
      | false ↦ λ _. refl
    ] refl

shift_other : (o : Sorts) (s k : ℕ) (z : ℤ) → (k ≡ s → ⊥) → shift o s k z ≡ z
unfolding shift
shift_other o s k z n = elim (nat_eq k s) as (λ b. nat_eq k s ≡ b
    → cond b (cond (has z (o.constants s)) z (z +ℤ pos 1)) z ≡ z) [
      | true ↦ λ e. absurd (n (eqb-true k s e))
      | false ↦ λ _. refl
    ] refl

shift_new : (o : Sorts) (s : ℕ) (z : ℤ) → (In z (o.constants s) → ⊥) → shift o s s z ≡ z +ℤ pos 1
unfolding shift
shift_new o s z n = ap (λ b. cond b (cond (has z (o.constants s)) z (z +ℤ pos 1)) z) (eq-eqb s s refl)
    ∙ elim (has z (o.constants s)) as (λ b. has z (o.constants s) ≡ b → cond b z (z +ℤ pos 1) ≡ z +ℤ pos 1) [
      | true ↦ λ e. absurd (n (has_in z (o.constants s) e))
      | false ↦ λ _. refl
    ] refl

-- a number greater than all of these
above : (cs : List ℤ) → (z : ℤ) × ((c : ℤ) → In c cs → c <ℤ z)
above [] = (pos 0, λ c i. absurd i)
above (d ∷ cs) = let w = above cs in elim (apart d w.0) as (λ _. (z : ℤ) × ((c : ℤ) → In c (d ∷ cs) → c <ℤ z)) [
  | inl l ↦ (w.0, λ c i. elim i as (λ _. c <ℤ w.0) [ inl e ↦ omega (arith, ints, e, l) | inr j ↦ w.1 c j ])
  | inr l ↦ (
    d +ℤ pos 1,
    λ c i. elim i as (λ _. c <ℤ (d +ℤ pos 1))
        [ inl e ↦ omega (arith, ints, e) | inr j ↦ (let g = w.1 c j in omega (arith, ints, g, l)) ],
  )
]

new_number : (cs : List ℤ) → (z : ℤ) × (In z cs → ⊥)
new_number cs = let w = above cs in (w.0, λ i. (let l = w.1 w.0 i in absurd (omega (arith, ints, l))))

-- ---- classes

module _ (o : Sorts) (at : ℕ → ℕ) (σ : Substitution) (es : List (Term × Term)) (solves : IsMostGeneralUnifier σ es)
    (alike : (e : Term × Term) → In e es → Alike o at e.0 e.1) where
  -- every value for the free classes, shifted at a sort, is again an instance
  shifted : (s : ℕ) (f : Valuation) → IsInstanceOf σ (λ x. shift o s (at x) (spread σ f x))
  shifted s f = solves.meets _ (mapped_unifies o at (shift o s) (shift_fixes o s) (spread σ f) es alike
      (solves.met (spread σ f) (spread_constant σ f solves.classes)))

  -- a variable and the one that stands for it are of one sort
  pub one_sort : (x y : ℕ) → σ x ≡ Variable y → at x ≡ at y
  one_sort x y e = elim (nat_eq (at x) (at y)) as (λ b. nat_eq (at x) (at y) ≡ b → at x ≡ at y) [
    | true ↦ λ q. eqb-true (at x) (at y) q
    | false ↦ λ q. (let w = new_number (o.constants (at x)) in
        let f : Valuation = λ _. w.0 in
        let vx : spread σ f x ≡ w.0 = ap (term_value f) e in
        let vy : spread σ f y ≡ w.0 = ap (term_value f) (solves.classes.own x y e) in
        let both : shift o (at x) (at x) (spread σ f x) ≡ shift o (at x) (at y) (spread σ f y) = shifted (at x) f x
        ∙ ap (term_value (λ z. shift o (at x) (at z) (spread σ f z))) e in
        let one : shift o (at x) (at x) (spread σ f x) ≡ w.0 +ℤ pos 1 = ap (shift o (at x) (at x)) vx
        ∙ shift_new o (at x) w.0 w.1 in
        let two : shift o (at x) (at y) (spread σ f y) ≡ w.0 =
        shift_other o (at x) (at y) (spread σ f y) (λ k. eqb-false (at x) (at y) q (sym k)) ∙ vy in
        let bad : w.0 +ℤ pos 1 ≡ w.0 = sym one ∙ both ∙ two in
        absurd (omega (arith, ints, bad)))
  ] refl

  -- a constant that stands for a variable is one of its sort
  pub own_constant : (x : ℕ) (c : ℤ) → σ x ≡ Constant c → In c (o.constants (at x))
  own_constant x c e = elim (has c (o.constants (at x))) as (λ b. has c (o.constants (at x)) ≡ b
      → In c (o.constants (at x))) [
        | true ↦ λ q. has_in c (o.constants (at x)) q
        | false ↦ λ q. (let f : Valuation = λ _. pos 0 in
            let vx : spread σ f x ≡ c = ap (term_value f) e in
            let one : shift o (at x) (at x) (spread σ f x) ≡ c = shifted (at x) f x
            ∙ ap (term_value (λ z. shift o (at x) (at z) (spread σ f z))) e in
            let two : shift o (at x) (at x) (spread σ f x) ≡ c +ℤ pos 1 = ap (shift o (at x) (at x)) vx
            ∙ shift_new o (at x) c (has_not c (o.constants (at x)) q) in
            let bad : c +ℤ pos 1 ≡ c = sym two ∙ one in
            absurd (omega (arith, ints, bad)))
      ] refl

-- ---- where a variable of the rules goes

side_of : (t : Term) (es : List (Term × Term)) → In t (equation_terms es) → (e : Term × Term) × In e es
    × ((t ≡ e.0) ⊎ (t ≡ e.1))
side_of t [] i = absurd i
side_of t (e ∷ es) (inl q) = (e, inl refl, inl q)
side_of t (e ∷ es) (inr (inl q)) = (e, inl refl, inr q)
side_of t (e ∷ es) (inr (inr i)) = let w = side_of t es i in (w.0, inr w.1, w.2)

module _ (r1 r2 : Rule) (m : List ℕ) (is : IsMatching r1 r2 m) (σ : Substitution)
    (solves : IsMostGeneralUnifier σ (all_equations r1 r2 m)) where
  -- a 64-bit constant, or a free variable
  abbrev pub Goes : Term → Type 0
  Goes t = ((c : ℤ) × (t ≡ Constant c) × (is_value c ≡ true))
      ⊎ ((y : ℕ) × (t ≡ Variable y) × In y (free_variables σ r1 r2))

  ranged : (t : Term) → In t (equation_terms (all_equations r1 r2 m)) → Ranged (variables_of r1 + variables_of r2) t
  ranged t i = let w = side_of t (all_equations r1 r2 m) i in let b = all_ranged r1 r2 m is w.0 w.1 in
      elim w.2 as (λ _. Ranged (variables_of r1 + variables_of r2) t) [
        | inl q ↦ subst (Ranged (variables_of r1 + variables_of r2)) (sym q) b.0
        | inr q ↦ subst (Ranged (variables_of r1 + variables_of r2)) (sym q) b.1
      ]

  pub goes : (x : ℕ) → 0 < x → x ≤ variables_of r1 + variables_of r2 → Goes (σ x)
  goes x l g = elim (terms_stand σ (all_equations r1 r2 m) solves x) as (λ _. Goes (σ x)) [
    | inl e ↦ inr (x, e, is_free σ r1 r2 x l g e)
    | inr h ↦ by (σ x) refl (ranged (σ x) h.1)
  ]
    where
      by : (t : Term) → σ x ≡ t → Ranged (variables_of r1 + variables_of r2) t → Goes t
      by (Constant c) e h = inl (c, refl, h)
      by (Variable y) e h = inr (y, refl, is_free σ r1 r2 y h.0 h.1 (solves.classes.own x y e))
