-- Equations solved place by place.
use Rattle.std.specs.List.{zip}
use Rattle.std.specs.Prelude.{◌≡◌, ℕ, zero, suc, ◌+◌, ◌-◌, ◌<◌, List, [], ◌∷◌, ◌++◌, length, get_or, drop, map, Option}
use Rattle.std.specs.Prelude.{Some, None}
use Rattle.std.specs.Option.{option_and_then}
use Rattle.std.proofs.Common.{refl, sym, ap, subst, ◌∙◌, arith}
use Rattle.std.proofs.lemmas.Option.{slice_get_within}
use Rattle.chr_base.specs.declared.term.Term.{Term}
use Rattle.chr_base.specs.declared.term.Pattern.{Pattern}
use Rattle.chr_base.specs.Rules.{no_pattern}
use Rattle.chr_confluence.specs.Unifiers.{Substitution, IsMostGeneralUnifier, HasNoUnifier}
use Rattle.chr_confluence.specs.Overlaps.{SameSymbols, renamed_apart, equations}
use Rattle.chr_confluence.specs.working.Solving.{identity_substitution, class_of, unify_terms, solve, Solved}
use Rattle.chr_confluence.proofs.Solving.{solved}

solve-append : (σ : Substitution) (es fs : List (Term × Term)) → solve σ (es ++ fs) ≡ option_and_then (λ τ. solve τ fs)
    (solve σ es)
solve-append σ [] fs = refl
solve-append σ (e ∷ es) fs = by (unify_terms σ (class_of σ e.0) (class_of σ e.1)) (λ τ. solve-append τ es fs)
  where
    by : (o : Option Substitution) → ((τ : Substitution) → solve τ (es ++ fs) ≡ option_and_then (λ ρ. solve ρ fs)
        (solve τ es))
        → option_and_then (λ τ. solve τ (es ++ fs)) o ≡ option_and_then (λ τ. solve τ fs)
        (option_and_then (λ τ. solve τ es) o)
    by None more = refl
    by (Some τ) more = more τ

-- the equations that are left from a place on
abbrev pub rest_of : ℕ → List Pattern → List ℕ → List Pattern → ℕ → List (Term × Term)
rest_of k qs m ps i = equations k qs (drop i m) (drop i ps)

-- the equations of one matched place
abbrev pub pairs_at : ℕ → List Pattern → List ℕ → List Pattern → ℕ → List (Term × Term)
pairs_at k qs m ps i = zip (get_or ps i no_pattern).args.items
    (map (renamed_apart k) (get_or qs (get_or m i 0 - 1) no_pattern).args.items)

-- each matched place is there in both lists
pub places_there : (qs : List Pattern) (m : List ℕ) (ps : List Pattern) (i : ℕ) → SameSymbols qs m ps → i < length m
    → (i < length ps) × (0 < get_or m i 0 → get_or m i 0 - 1 < length qs)
places_there qs [] [] i h l = absurd (omega (arith, l))
places_there qs [] (p ∷ ps) i h l = absurd h
places_there qs (e ∷ m) [] i h l = absurd h
places_there qs (zero ∷ m) (p ∷ ps) zero h l = (omega arith, λ g. absurd (omega (arith, g)))
places_there qs (suc e ∷ m) (p ∷ ps) zero h l = (
  omega arith,
  λ g. (let w = slice_get_within qs e h.0.0 h.0.1 in let z : suc e - 1 ≡ e = omega arith in rw z w),
)
places_there qs (zero ∷ m) (p ∷ ps) (suc i) h l = (let r = places_there qs m ps i h (omega (arith, l)) in let a = r.0 in
    (omega (arith, a), r.1))
places_there qs (suc e ∷ m) (p ∷ ps) (suc i) h l = (let r = places_there qs m ps i h.1 (omega (arith, l)) in let a =
    r.0 in (omega (arith, a), r.1))

-- a place that is matched with none, and one that is matched
pub rest_unmatched : (k : ℕ) (qs : List Pattern) (m : List ℕ) (ps : List Pattern) (i : ℕ) → i < length m → i < length ps
    → get_or m i 0 ≡ 0 → rest_of k qs m ps i ≡ rest_of k qs m ps (i + 1)
rest_unmatched k qs [] ps i l h e = absurd (omega (arith, l))
rest_unmatched k qs (d ∷ m) [] i l h e = absurd (omega (arith, h))
rest_unmatched k qs (d ∷ m) (p ∷ ps) zero l h e = ap (λ x. equations k qs (x ∷ m) (p ∷ ps)) e
rest_unmatched k qs (d ∷ m) (p ∷ ps) (suc i) l h e =
    let z : suc (i + 1) ≡ suc i + 1 = omega arith in
    subst (λ j. rest_of k qs m ps i ≡ rest_of k qs (d ∷ m) (p ∷ ps) j) z
    (rest_unmatched k qs m ps i (omega (arith, l)) (omega (arith, h)) e)

pub rest_matched : (k : ℕ) (qs : List Pattern) (m : List ℕ) (ps : List Pattern) (i : ℕ) → i < length m → i < length ps
    → 0 < get_or m i 0
    → rest_of k qs m ps i ≡ pairs_at k qs m ps i ++ rest_of k qs m ps (i + 1)
rest_matched k qs [] ps i l h e = absurd (omega (arith, l))
rest_matched k qs (d ∷ m) [] i l h e = absurd (omega (arith, h))
rest_matched k qs (zero ∷ m) (p ∷ ps) zero l h e = absurd (omega (arith, e))
rest_matched k qs (suc d ∷ m) (p ∷ ps) zero l h e =
    let z : d ≡ suc d - 1 = omega arith in
    ap (λ x. zip p.args.items (map (renamed_apart k) (get_or qs x no_pattern).args.items) ++ equations k qs m ps) z
rest_matched k qs (d ∷ m) (p ∷ ps) (suc i) l h e =
    let z : suc (i + 1) ≡ suc i + 1 = omega arith in
    subst (λ j. rest_of k qs m ps i ≡ pairs_at k qs m ps i ++ rest_of k qs (d ∷ m) (p ∷ ps) j) z
    (rest_matched k qs m ps i (omega (arith, l)) (omega (arith, h)) e)

-- the first equations are solved, or can't be
pub solved_first : (σ τ : Substitution) (es fs : List (Term × Term)) → Some τ ≡ solve σ es → solve σ (es ++ fs)
    ≡ solve τ fs
solved_first σ τ es fs e = solve-append σ es fs ∙ ap (option_and_then (λ ρ. solve ρ fs)) (sym e)

pub first_clash : (σ : Substitution) (es fs : List (Term × Term)) → None ≡ solve σ es → solve σ (es ++ fs) ≡ None
first_clash σ es fs e = solve-append σ es fs ∙ ap (option_and_then (λ ρ. solve ρ fs)) (sym e)

-- what the answer means
pub none_solve : (es : List (Term × Term)) → solve identity_substitution es ≡ None → HasNoUnifier es
none_solve es e = subst (Solved es) e (solved es)

pub some_solve : (es : List (Term × Term)) (σ : Substitution) → solve identity_substitution es ≡ Some σ
    → IsMostGeneralUnifier σ es
some_solve es σ e = subst (Solved es) e (solved es)
