-- Unification one equation after the other.
use Rattle.std.specs.Prelude.{ℕ, List, [], ◌∷◌, Option, Some, None, nat_eq, nat_lt}
use Rattle.std.specs.Option.{option_and_then}
use Rattle.std.specs.Ordering.{int_eq}
use Rattle.chr_base.specs.declared.term.Term.{Term}
use Rattle.chr_base.specs.declared.term.Term.TheVariants.{Variable, Constant}
use Rattle.chr_confluence.specs.Unifiers.{Substitution, IsMostGeneralUnifier, HasNoUnifier}
use Rattle.std.specs.Prelude.{if◌then◌else◌}

abbrev pub identity_substitution : Substitution
identity_substitution x = Variable x

-- the term under the substitution
abbrev pub class_of : Substitution → Term → Term
class_of σ (Variable x) = σ x
class_of σ (Constant c) = Constant c

-- the term with t in place of x
abbrev pub put_term : ℕ → Term → Term → Term
put_term x t (Variable y) = if nat_eq y x then t else Variable y
put_term x t (Constant c) = Constant c

abbrev pub put_everywhere : ℕ → Term → Substitution → Substitution
put_everywhere x t σ y = put_term x t (σ y)

-- The substitution with both terms in one class, and None where two constants would be one. The later variable becomes
-- the earlier one.
abbrev pub unify_terms : Substitution → Term → Term → Option Substitution
unify_terms σ (Constant c) (Constant d) = if int_eq c d then Some σ else None
unify_terms σ (Constant c) (Variable y) = Some (put_everywhere y (Constant c) σ)
unify_terms σ (Variable x) (Constant d) = Some (put_everywhere x (Constant d) σ)
unify_terms σ (Variable x) (Variable y) =
    if nat_eq x y then Some σ
    else (if nat_lt x y then Some (put_everywhere y (Variable x) σ) else Some (put_everywhere x (Variable y) σ))

-- the substitution with every equation
abbrev pub solve : Substitution → List (Term × Term) → Option Substitution
solve σ [] = Some σ
solve σ (e ∷ es) = option_and_then (λ τ. solve τ es) (unify_terms σ (class_of σ e.0) (class_of σ e.1))

-- the answer is a most general unifier, or None where there is no unifier
abbrev pub Solved : List (Term × Term) → Option Substitution → Type 0
Solved es None = HasNoUnifier es
Solved es (Some σ) = IsMostGeneralUnifier σ es
