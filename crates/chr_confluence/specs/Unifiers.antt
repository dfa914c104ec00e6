-- Unification of equations between terms.
use Rattle.std.specs.Prelude.{◌≡◌, ℕ, ◌≤◌, List, [], ◌∷◌}
use Rattle.chr_base.specs.declared.term.Term.{Term}
use Rattle.chr_base.specs.declared.term.Term.TheVariants.{Variable}
use Rattle.chr_base.specs.Rules.{Valuation, term_value}
use Rattle.std.specs.Prelude.{⊤}

-- a term for each variable
abbrev pub Substitution : Type 0
Substitution = ℕ → Term

-- under the valuation both sides of each equation have one value
abbrev pub Unifies : Valuation → List (Term × Term) → Type 0
Unifies v [] = ⊤
Unifies v (e ∷ es) = (term_value v e.0 ≡ term_value v e.1) × Unifies v es

-- under the valuation each variable has the value of the term that the substitution gives it
abbrev pub IsInstanceOf : Substitution → Valuation → Type 0
IsInstanceOf σ v = (x : ℕ) → v x ≡ term_value v (σ x)

-- A substitution that names classes of variables: a variable that stands for a class stands for itself, and is the
-- first of its class.
pub record AreClasses (σ : Substitution) : Type 0 where
  pub own : (y x : ℕ) → σ y ≡ Variable x → σ x ≡ Variable x
  pub first : (y x : ℕ) → σ y ≡ Variable x → x ≤ y

-- the valuations that unify the equations are just the instances of the substitution
pub record IsMostGeneralUnifier (σ : Substitution) (es : List (Term × Term)) : Type 0 where
  pub classes : AreClasses σ
  pub meets : (v : Valuation) → Unifies v es → IsInstanceOf σ v
  pub met : (v : Valuation) → IsInstanceOf σ v → Unifies v es

-- no valuation unifies the equations, since two constants would be one
abbrev pub HasNoUnifier : List (Term × Term) → Type 0
HasNoUnifier es = (v : Valuation) → ¬ Unifies v es
