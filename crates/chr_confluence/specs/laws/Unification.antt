-- What the law of unification says.
use Rattle.std.specs.Prelude.{◌≡◌, ℕ, List, [], ◌∷◌, ◌⊎◌}
use Rattle.chr_base.specs.declared.term.Term.{Term}
use Rattle.chr_base.specs.declared.term.Term.TheVariants.{Variable}
use Rattle.chr_types.specs.OrderTypes.{In}
use Rattle.chr_confluence.specs.Unifiers.{Substitution, IsMostGeneralUnifier, HasNoUnifier}

-- equations have a most general unifier, or no unifier
abbrev pub UnifiersExist : Type 0
UnifiersExist = (es : List (Term × Term)) → HasNoUnifier es ⊎ ((σ : Substitution) × IsMostGeneralUnifier σ es)

-- equations have one most general unifier at most, so every way to find it gives the same
abbrev pub OneUnifier : Type 0
OneUnifier =
    (σ τ : Substitution) (es : List (Term × Term)) → IsMostGeneralUnifier σ es → IsMostGeneralUnifier τ es
    → (x : ℕ) → σ x ≡ τ x

-- the terms on both sides
abbrev pub equation_terms : List (Term × Term) → List Term
equation_terms [] = []
equation_terms (e ∷ es) = e.0 ∷ e.1 ∷ equation_terms es

-- a variable that does not stand for itself is a term of the equations, and the term that it stands for is one
abbrev pub TermsStand : Type 0
TermsStand =
    (σ : Substitution) (es : List (Term × Term)) → IsMostGeneralUnifier σ es
    → (x : ℕ) → (σ x ≡ Variable x) ⊎ (In (Variable x) (equation_terms es) × In (σ x) (equation_terms es))
