-- What the =:= of a guard make equal, comparison by comparison.
use Rattle.std.specs.Prelude.{◌≡◌, ℕ, zero, suc, ◌+◌, ◌<◌, true, false, cond, List, [], ◌∷◌, length, get_or, drop, map}
use Rattle.std.specs.Prelude.{Some, None}
use Rattle.std.specs.Option.{option_and_then}
use Rattle.std.proofs.Common.{refl, sym, ap, subst, arith}
use Rattle.chr_base.specs.declared.term.Term.{Term}
use Rattle.chr_base.specs.declared.term.Term.TheVariants.{Variable, Constant}
use Rattle.chr_base.specs.declared.term.Comparison.{Comparison}
use Rattle.chr_confluence.specs.Unifiers.{Substitution}
use Rattle.chr_confluence.specs.Overlaps.{renamed_apart}
use Rattle.chr_confluence.specs.working.Solving.{class_of, unify_terms, solve}
use Rattle.chr_confluence.specs.SortedCases.{is_equation, guard_equations, equation_apart}

-- the equations that are left from a comparison on
abbrev pub left_from : ℕ → List Comparison → ℕ → List (Term × Term)
left_from k cs i = map (equation_apart k) (guard_equations (drop i cs))

-- the equation of one comparison
abbrev pub sides_of : ℕ → Comparison → Term × Term
sides_of k c = (renamed_apart k c.left, renamed_apart k c.right)

pub equation_next : (k : ℕ) (cs : List Comparison) (i : ℕ) (d : Comparison) → i < length cs
    → is_equation (get_or cs i d).cmp ≡ true → left_from k cs i ≡ sides_of k (get_or cs i d) ∷ left_from k cs (i + 1)
equation_next k [] i d l e = absurd (omega (arith, l))
equation_next k (c ∷ cs) zero d l e = ap (λ b. map (equation_apart k)
    (cond b ((c.left, c.right) ∷ guard_equations cs) (guard_equations cs))) e
equation_next k (c ∷ cs) (suc i) d l e =
    let z : suc (i + 1) ≡ suc i + 1 = omega arith in
    subst (λ j. left_from k cs i ≡ sides_of k (get_or cs i d) ∷ left_from k (c ∷ cs) j) z
    (equation_next k cs i d (omega (arith, l)) e)

pub other_next : (k : ℕ) (cs : List Comparison) (i : ℕ) (d : Comparison) → i < length cs
    → is_equation (get_or cs i d).cmp ≡ false → left_from k cs i ≡ left_from k cs (i + 1)
other_next k [] i d l e = absurd (omega (arith, l))
other_next k (c ∷ cs) zero d l e = ap (λ b. map (equation_apart k)
    (cond b ((c.left, c.right) ∷ guard_equations cs) (guard_equations cs))) e
other_next k (c ∷ cs) (suc i) d l e =
    let z : suc (i + 1) ≡ suc i + 1 = omega arith in
    subst (λ j. left_from k cs i ≡ left_from k (c ∷ cs) j) z (other_next k cs i d (omega (arith, l)) e)

-- one equation is solved, or can't be
pub solved_one : (σ τ : Substitution) (e : Term × Term) (es : List (Term × Term)) → Some τ
    ≡ unify_terms σ (class_of σ e.0) (class_of σ e.1) → solve σ (e ∷ es) ≡ solve τ es
solved_one σ τ e es h = ap (option_and_then (λ ρ. solve ρ es)) (sym h)

pub one_clash : (σ : Substitution) (e : Term × Term) (es : List (Term × Term)) → None ≡ unify_terms σ (class_of σ e.0)
    (class_of σ e.1) → solve σ (e ∷ es) ≡ None
one_clash σ e es h = ap (option_and_then (λ ρ. solve ρ es)) (sym h)

-- the terms of the first rule stay as they are
same_term : (t : Term) → renamed_apart 0 t ≡ t
same_term (Variable x) = let e : 0 + x ≡ x = omega arith in ap Variable e
same_term (Constant c) = refl

pub not_moved : (es : List (Term × Term)) → map (equation_apart 0) es ≡ es
not_moved [] = refl
not_moved (e ∷ es) = λ i. (same_term e.0 i, same_term e.1 i) ∷ not_moved es i
