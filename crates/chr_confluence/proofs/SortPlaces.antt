-- Where terms stand, and the sort of a variable.
use Rattle.std.specs.Prelude.{◌≡◌, ℕ, suc, true, false, cond, List, [], ◌∷◌, ◌++◌}
use Rattle.std.proofs.Common.{refl, sym, ap, ◌∙◌, inl, inr}
use Rattle.std.proofs.lemmas.Bool.{eq-eqb}
use Rattle.std.proofs.lemmas.List.{append_assoc}
use Rattle.chr_base.specs.declared.term.Term.{Term}
use Rattle.chr_base.specs.declared.term.Term.TheVariants.{Variable, Constant}
use Rattle.chr_base.specs.declared.term.Pattern.{Pattern}
use Rattle.chr_base.specs.declared.rule.Rule.{Rule}
use Rattle.chr_base.specs.RuleTests.{is_variable, terms_of}
use Rattle.chr_base.specs.Rules.{heads_of}
use Rattle.chr_types.specs.OrderTypes.{In}
use Rattle.chr_types.proofs.Members.{in_first, in_second, in_either}
use Rattle.chr_confluence.proofs.Frees.{own_is}
use Rattle.chr_confluence.proofs.Solving.{same_variable}
use Rattle.chr_confluence.specs.Sorts.{Sorts, terms_from, sorted_terms, first_sort, sort_of}

-- ---- a term stands at some sort

argument_at : (sort : ℕ → ℕ) (k : ℕ) (ts : List Term) (t : Term) → In t ts → (j : ℕ) × In (j, t) (terms_from sort k ts)
argument_at sort k [] t i = absurd i
argument_at sort k (u ∷ ts) t (inl e) = (sort k, inl (λ i. (sort k, e i)))
argument_at sort k (u ∷ ts) t (inr i) = let w = argument_at sort (suc k) ts t i in (w.0, inr w.1)

pub term_at : (o : Sorts) (ps : List Pattern) (t : Term) → In t (terms_of ps) → (j : ℕ) × In (j, t) (sorted_terms o ps)
term_at o [] t i = absurd i
term_at o (p ∷ ps) t i = elim (in_either t p.args.items (terms_of ps) i) as (λ _. (j : ℕ)
    × In (j, t) (sorted_terms o (p ∷ ps))) [
      | inl h ↦ (let w = argument_at (o.sort p.symbol.0) 0 p.args.items t h in
          (w.0, in_first (w.0, t) (terms_from (o.sort p.symbol.0) 0 p.args.items) (sorted_terms o ps) w.1))
      | inr h ↦ (let w = term_at o ps t h in (
        w.0,
        in_second (w.0, t) (terms_from (o.sort p.symbol.0) 0 p.args.items)
            (sorted_terms o ps) w.1,
      ))
    ]

-- ---- the first sort

is_own : (x : ℕ) (t : Term) → t ≡ Variable x → is_variable x t ≡ true
is_own x (Variable y) e = eq-eqb x y (sym (same_variable y x e))
is_own x (Constant c) e = absurd cc

-- where the variable stands at all, it stands at its first sort
pub first_there : (ps : List (ℕ × Term)) (j x : ℕ) → In (j, Variable x) ps → In (first_sort ps x, Variable x) ps
first_there [] j x i = absurd i
first_there (p ∷ ps) j x i = elim (is_variable x p.1) as (λ b. is_variable x p.1 ≡ b
    → In (cond b p.0 (first_sort ps x), Variable x) (p ∷ ps)) [
      | true ↦ λ e. inl (λ k. (p.0, sym (own_is x p.1 e) k))
      | false ↦ λ e. inr (first_there ps j x (elim i as (λ _. In (j, Variable x) ps) [
        | inl q ↦ absurd (let w : is_variable x p.1 ≡ true = is_own x p.1 (sym (ap (λ (z : ℕ × Term). z.1) q)) in
            let n : true ≡ false = sym w ∙ e in cc)
        | inr h ↦ h
      ]))
    ] refl

-- a variable of the heads stands there at its sort
pub stands_at_sort : (o : Sorts) (r : Rule) (x : ℕ) → In (Variable x) (terms_of (heads_of r))
    → In (sort_of o r x, Variable x) (sorted_terms o (heads_of r))
stands_at_sort o r x i = let w = term_at o (heads_of r) (Variable x) i in
    first_there (sorted_terms o (heads_of r)) w.0 x w.1

-- ---- lists of patterns

pub sorted-append : (o : Sorts) (ps qs : List Pattern) → sorted_terms o (ps ++ qs) ≡ sorted_terms o ps
    ++ sorted_terms o qs
sorted-append o [] qs = refl
sorted-append o (p ∷ ps) qs = ap (λ us. terms_from (o.sort p.symbol.0) 0 p.args.items ++ us) (sorted-append o ps qs)
    ∙ sym (append_assoc (terms_from (o.sort p.symbol.0) 0 p.args.items) (sorted_terms o ps) (sorted_terms o qs))

-- ---- what stands at a sort stands there

argument_in : (sort : ℕ → ℕ) (k : ℕ) (ts : List Term) (j : ℕ) (t : Term) → In (j, t) (terms_from sort k ts) → In t ts
argument_in sort k [] j t i = absurd i
argument_in sort k (u ∷ ts) j t (inl e) = inl (ap (λ (q : ℕ × Term). q.1) e)
argument_in sort k (u ∷ ts) j t (inr i) = inr (argument_in sort (suc k) ts j t i)

pub term_in : (o : Sorts) (ps : List Pattern) (j : ℕ) (t : Term) → In (j, t) (sorted_terms o ps) → In t (terms_of ps)
term_in o [] j t i = absurd i
term_in o (p ∷ ps) j t i = elim (in_either (j, t) (terms_from (o.sort p.symbol.0) 0 p.args.items)
    (sorted_terms o ps) i) as (λ _. In t (p.args.items ++ terms_of ps)) [
      | inl q ↦ in_first t p.args.items (terms_of ps) (argument_in (o.sort p.symbol.0) 0 p.args.items j t q)
      | inr q ↦ in_second t p.args.items (terms_of ps) (term_in o ps j t q)
    ]
