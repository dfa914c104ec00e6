-- Unification one equation after the other gives a most general unifier, or none where there is none.
use Rattle.std.specs.Prelude.{◌≡◌, ℕ, ◌<◌, ◌≤◌, true, false, cond, List, [], ◌∷◌, Option, Some, None, nat_eq, nat_lt}
use Rattle.std.specs.Prelude.{◌⊎◌}
use mathlib.Core.Bool.{true≢false}
use Rattle.std.proofs.Common.{refl, sym, ap, subst, ◌∙◌, arith, inl, inr}
use Rattle.std.proofs.lemmas.Bool.Decides.{Decides-int_eq}
use Rattle.std.proofs.lemmas.Bool.{eqb-true, eqb-false, eq-eqb, ltb-true, ltb-false}
use Rattle.std.specs.Option.{option_and_then}
use Rattle.std.specs.Ordering.{int_eq}
use Rattle.chr_base.specs.declared.term.Term.{Term}
use Rattle.chr_base.specs.declared.term.Term.TheVariants.{Variable, Constant}
use Rattle.chr_base.specs.Rules.{Valuation, term_value}
use Rattle.chr_confluence.specs.Unifiers.{Unifies, Substitution, IsInstanceOf, AreClasses, IsMostGeneralUnifier}
use Rattle.chr_confluence.specs.Unifiers.{HasNoUnifier}
use Rattle.chr_confluence.specs.working.Solving.{identity_substitution, class_of, put_term, put_everywhere, unify_terms}
use Rattle.chr_confluence.specs.working.Solving.{solve, Solved}
use Rattle.chr_confluence.specs.laws.Unification.{UnifiersExist}

pub same_variable : (x y : ℕ) → Variable x ≡ Variable y → x ≡ y
same_variable x y e = cc

put_value : (v : Valuation) (x : ℕ) (t : Term) → v x ≡ term_value v t → (s : Term) → term_value v (put_term x t s)
    ≡ term_value v s
put_value v x t h (Constant c) = refl
put_value v x t h (Variable y) =
    elim (nat_eq y x) as (λ b. nat_eq y x ≡ b → term_value v (cond b t (Variable y)) ≡ v y) [
      | true ↦ λ e. sym h ∙ ap v (sym (eqb-true y x e))
      | false ↦ λ e. refl
    ] refl

put_own : (x : ℕ) (t : Term) → put_term x t (Variable x) ≡ t
put_own x t = ap (λ b. cond b t (Variable x)) (eq-eqb x x refl)

-- what one equation adds
record Adds (σ : Substitution) (a b : Term) (τ : Substitution) : Type 0 where
  classes : AreClasses τ
  meets : (v : Valuation) → IsInstanceOf σ v → term_value v a ≡ term_value v b → IsInstanceOf τ v
  met : (v : Valuation) → IsInstanceOf τ v → IsInstanceOf σ v × (term_value v a ≡ term_value v b)

join_adds : (σ : Substitution) → AreClasses σ → (x : ℕ) (t : Term) → σ x ≡ Variable x
    → ((z : ℕ) → t ≡ Variable z → (σ z ≡ Variable z) × (z < x)) → Adds σ (Variable x) t (put_everywhere x t σ)
join_adds σ is x t own other = record {
  classes = record { own = owns; first = firsts };
  meets = λ v h e y. h y ∙ sym (put_value v x t e (σ y));
  met = λ v h. (let e : v x ≡ term_value v t = h x ∙ ap (λ s. term_value v (put_term x t s)) own
      ∙ ap (term_value v) (put_own x t) in (λ y. h y ∙ put_value v x t e (σ y), e));
}
  where
    stays : (w : ℕ) → (w ≡ x → ⊥) → put_term x t (Variable w) ≡ Variable w
    stays w n = elim (nat_eq w x) as (λ b. nat_eq w x ≡ b → cond b t (Variable w) ≡ Variable w)
        [ true ↦ λ e. absurd (n (eqb-true w x e)) | false ↦ λ e. refl ] refl

    own_by : (y z : ℕ) (s : Term) → σ y ≡ s → put_term x t s ≡ Variable z → (put_term x t (σ z) ≡ Variable z) × (z ≤ y)
    own_by y z (Constant c) e h = absurd cc
    own_by y z (Variable w) e h = elim (nat_eq w x) as (λ b. nat_eq w x ≡ b → cond b t (Variable w) ≡ Variable z
        → (put_term x t (σ z) ≡ Variable z) × (z ≤ y)) [
          | true ↦ λ b q. (let o = other z q in let wx = eqb-true w x b in let f = is.first y w e in let less = o.1 in
              (ap (put_term x t) o.0 ∙ stays z (λ k. omega (arith, k, less)), omega (arith, wx, f, less)))
          | false ↦ λ b q. (let wz : w ≡ z = same_variable w z q in let f = is.first y w e in (
            subst (λ u. put_term x t (σ u) ≡ Variable u) wz
                (ap (put_term x t) (is.own y w e) ∙ stays w (eqb-false w x b)),
            omega (arith, wz, f),
          ))
        ] refl h

    owns : (y z : ℕ) → put_term x t (σ y) ≡ Variable z → put_term x t (σ z) ≡ Variable z
    owns y z h = (own_by y z (σ y) refl h).0

    firsts : (y z : ℕ) → put_term x t (σ y) ≡ Variable z → z ≤ y
    firsts y z h = (own_by y z (σ y) refl h).1

Out : Substitution → Term → Term → Option Substitution → Type 0
Out σ a b None = (v : Valuation) → term_value v a ≡ term_value v b → ⊥
Out σ a b (Some τ) = Adds σ a b τ

swapped : (σ : Substitution) (a b : Term) (τ : Substitution) → Adds σ a b τ → Adds σ b a τ
swapped σ a b τ h = record {
  classes = h.classes;
  meets = λ v k e. h.meets v k (sym e);
  met =
      λ v k. (let m = h.met v k in (m.0, sym m.1));
}

nothing_added : (σ : Substitution) (a b : Term) → AreClasses σ → ((v : Valuation) → term_value v a ≡ term_value v b)
    → Adds σ a b σ
nothing_added σ a b is e = record { classes = is; meets = λ v h _. h; met = λ v h. (h, e v) }

joined_is : (σ : Substitution) → AreClasses σ → (a b : Term) → ((z : ℕ) → a ≡ Variable z → σ z ≡ Variable z)
    → ((z : ℕ) → b ≡ Variable z → σ z ≡ Variable z) → Out σ a b (unify_terms σ a b)
unfolding Out
joined_is σ is (Constant c) (Constant d) oa ob = elim (int_eq c d) as (λ t. int_eq c d ≡ t
    → Out σ (Constant c) (Constant d) (cond t (Some σ) None)) [
      | true ↦ λ t. nothing_added σ (Constant c) (Constant d) is (λ v. (Decides-int_eq c d).0 t)
      | false ↦ λ t v e. true≢false (sym ((Decides-int_eq c d).1 e) ∙ t)
    ] refl
joined_is σ is (Constant c) (Variable y) oa ob = swapped σ (Variable y) (Constant c) _
    (join_adds σ is y (Constant c) (ob y refl) (λ z e. absurd cc))
joined_is σ is (Variable x) (Constant d) oa ob = join_adds σ is x (Constant d) (oa x refl) (λ z e. absurd cc)
joined_is σ is (Variable x) (Variable y) oa ob = elim (nat_eq x y) as (λ t. nat_eq x y ≡ t
    → Out σ (Variable x) (Variable y) (cond t (Some σ)
    (cond (nat_lt x y) (Some (put_everywhere y (Variable x) σ)) (Some (put_everywhere x (Variable y) σ))))) [
      | true ↦ λ t. nothing_added σ (Variable x) (Variable y) is (λ v. ap v (eqb-true x y t))
      | false ↦ λ t. elim (nat_lt x y) as (λ s. nat_lt x y ≡ s
          → Out σ (Variable x) (Variable y) (cond s (Some (put_everywhere y (Variable x) σ))
          (Some (put_everywhere x (Variable y) σ)))) [
            | true ↦ λ s. swapped σ (Variable y) (Variable x) _
                (join_adds σ is y (Variable x) (ob y refl) (λ z e.
                (oa z e, (let q : x ≡ z = same_variable x z e in let l = ltb-true x y s in omega (arith, q, l)))))
            | false ↦ λ s. join_adds σ is x (Variable y) (oa x refl)
                (λ z e. (
                  ob z e,
                  (let q : y ≡ z = same_variable y z e in let l = ltb-false x y s in let n = eqb-false x y t in
                      omega (arith, q, l, n)),
                ))
          ] refl
    ] refl

value_class : (σ : Substitution) (v : Valuation) → IsInstanceOf σ v → (t : Term) → term_value v t
    ≡ term_value v (class_of σ t)
value_class σ v h (Variable x) = h x
value_class σ v h (Constant c) = refl

own_class : (σ : Substitution) → AreClasses σ → (t : Term) (z : ℕ) → class_of σ t ≡ Variable z → σ z ≡ Variable z
own_class σ is (Variable x) z e = is.own x z e
own_class σ is (Constant c) z e = absurd cc

-- the classes τ meet just what σ and the equations ask
record Refines (σ : Substitution) (es : List (Term × Term)) (τ : Substitution) : Type 0 where
  classes : AreClasses τ
  meets : (v : Valuation) → IsInstanceOf σ v → Unifies v es → IsInstanceOf τ v
  met : (v : Valuation) → IsInstanceOf τ v → IsInstanceOf σ v × Unifies v es

Refined : Substitution → List (Term × Term) → Option Substitution → Type 0
Refined σ es None = (v : Valuation) → IsInstanceOf σ v → Unifies v es → ⊥
Refined σ es (Some τ) = Refines σ es τ

refined : (es : List (Term × Term)) (σ : Substitution) → AreClasses σ → Refined σ es (solve σ es)
unfolding Out Refined
refined [] σ is = record { classes = is; meets = λ v h _. h; met = λ v h. (h, tt) }
refined (e ∷ es) σ is = after (unify_terms σ (class_of σ e.0) (class_of σ e.1))
    (joined_is σ is (class_of σ e.0) (class_of σ e.1) (own_class σ is e.0) (own_class σ is e.1)) (λ τ k. refined es τ k)
  where
    both : (v : Valuation) → IsInstanceOf σ v → term_value v e.0 ≡ term_value v e.1 → term_value v (class_of σ e.0)
        ≡ term_value v (class_of σ e.1)
    both v h m = sym (value_class σ v h e.0) ∙ m ∙ value_class σ v h e.1

    on : (τ : Substitution) → Adds σ (class_of σ e.0) (class_of σ e.1) τ → (o : Option Substitution) → Refined τ es o
        → Refined σ (e ∷ es) o
    on τ k None s = λ v h m. s v (k.meets v h (both v h m.0)) m.1
    on τ k (Some ρ) s = record {
      classes = s.classes;
      meets = λ v h m. s.meets v (k.meets v h (both v h m.0)) m.1;
      met = λ v h. (let t = s.met v h in let u = k.met v t.0 in
          (u.0, (value_class σ v u.0 e.0 ∙ u.1 ∙ sym (value_class σ v u.0 e.1), t.1)));
    }

    after : (o : Option Substitution) → Out σ (class_of σ e.0) (class_of σ e.1) o
        → ((τ : Substitution) → AreClasses τ → Refined τ es (solve τ es))
        → Refined σ (e ∷ es) (option_and_then (λ τ. solve τ es) o)
    after None n more = λ v h m. n v (both v h m.0)
    after (Some τ) k more = on τ k (solve τ es) (more τ k.classes)

single_classes : AreClasses identity_substitution
single_classes = record {
  own = λ y x e. ap Variable (sym (same_variable y x e)) ∙ e;
  first =
      λ y x e. (let q = same_variable y x e in omega (arith, q));
}

-- a valuation meets the equations just where it is constant on the classes
pub solved : (es : List (Term × Term)) → Solved es (solve identity_substitution es)
unfolding Refined
solved es = by (solve identity_substitution es) (refined es identity_substitution single_classes)
  where
    by : (o : Option Substitution) → Refined identity_substitution es o → Solved es o
    by None h = λ v m. h v (λ x. refl) m
    by (Some σ) h = record { classes = h.classes; meets = λ v m. h.meets v (λ x. refl) m; met = λ v c. (h.met v c).1 }

pub unifiers_exist : UnifiersExist
unifiers_exist es = by (solve identity_substitution es) (solved es)
  where
    by : (o : Option Substitution) → Solved es o → HasNoUnifier es ⊎ ((σ : Substitution) × IsMostGeneralUnifier σ es)
    by None h = inl h
    by (Some σ) h = inr (σ, h)
