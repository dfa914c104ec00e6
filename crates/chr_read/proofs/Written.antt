-- Texts that are written clause by clause.
use Rattle.std.proofs.Common.{◌≡◌, ℕ, ◌+◌, ◌<◌, List, [], ◌∷◌, ◌++◌, length, map, get_or, take, drop, Bool, true, false}
use Rattle.std.proofs.Common.{cond, Some, slice_get, refl, sym, ap, ◌∙◌, append_assoc}
use Rattle.std.specs.Prelude.{codes}
use Rattle.std.proofs.lemmas.List.{drop_more, take_more, map-append}
use Rattle.std.proofs.lemmas.Option.{get_or_from_slice_get}
use Rattle.chr_base.specs.ProgramTests.{Declaration}
use Rattle.chr_base.specs.Weights.{is_paired, weight_text}
use Rattle.chr_base.specs.declared.rule.Rule.{Rule}
use Rattle.chr_read.specs.declared.writer.Declared.{Declared}
use Rattle.chr_read.specs.working.Views.{declared_view}
use Rattle.chr_read.specs.CanonicalTexts.{more, symbol_text, declaration_clauses, weight_clause, is_default}
use Rattle.chr_read.specs.CanonicalTexts.{weight_clauses, rule_clause, ended_clauses, canonical}

pub ended-append : (cs ds : List (List ℕ)) → ended_clauses (cs ++ ds) ≡ ended_clauses cs ++ ended_clauses ds
ended-append [] ds = refl
ended-append (c ∷ cs) ds = ap (λ x. c ++ (codes ".\n" ++ x)) (ended-append cs ds)
    ∙ sym (append_assoc c (codes ".\n" ++ ended_clauses cs) (ended_clauses ds))

pub declaration_written : (old a b c e : List ℕ) (d : Declaration) (ds all : List Declaration) → a ≡ old
    ++ codes ":- chr_constraint " → b ≡ a ++ symbol_text d → c ≡ b ++ more (codes ", ") symbol_text ds
    → e ≡ c ++ codes ".\n"
    → all ≡ d ∷ ds → e ≡ old ++ ended_clauses (declaration_clauses all)
declaration_written old a b c e d ds all p q r s is =
    let s1 = symbol_text d in let m = more (codes ", ") symbol_text ds in let h = codes ":- chr_constraint " in
    s ∙ ap (λ x. x ++ codes ".\n") (r ∙ ap (λ x. x ++ m) (q ∙ ap (λ x. x ++ s1) p))
    ∙ ap (λ x. x ++ codes ".\n") (append_assoc (old ++ h) s1 m ∙ append_assoc old h (s1 ++ m))
    ∙ append_assoc old (h ++ (s1 ++ m)) (codes ".\n")
    ∙ sym (ap (λ x. old ++ ended_clauses (declaration_clauses x)) is)

pub weight_written : (old a b c e f : List ℕ) (d : Declaration) → is_default d.weight ≡ false → a ≡ old
    ++ codes ":- chr_weight " → b ≡ a ++ symbol_text d → c ≡ b ++ codes " = "
    → e ≡ c ++ weight_text (is_paired d.weight) d.weight → f ≡ e ++ codes ".\n" → f ≡ old
    ++ ended_clauses (weight_clauses (d ∷ []))
weight_written old a b c e f d other p q r s is =
    let s1 = symbol_text d in let h = codes ":- chr_weight " in let w = weight_text (is_paired d.weight) d.weight in
    let after = codes " = " ++ w in
    is ∙ ap (λ x. x ++ codes ".\n")
    (s ∙ ap (λ x. x ++ w) r ∙ append_assoc b (codes " = ") w ∙ ap (λ x. x ++ after) (q ∙ ap (λ x. x ++ s1) p)
    ∙ append_assoc (old ++ h) s1 after ∙ append_assoc old h (s1 ++ after))
    ∙ append_assoc old (h ++ (s1 ++ after)) (codes ".\n")
    ∙ sym (ap (λ t. old ++ ended_clauses (cond t [] (weight_clause d ∷ []))) other)

pub weights_more : (d : Declaration) (ds : List Declaration) → ended_clauses (weight_clauses (d ∷ []))
    ++ ended_clauses (weight_clauses ds) ≡ ended_clauses (weight_clauses (d ∷ ds))
weights_more d ds = by (is_default d.weight)
  where
    by : (t : Bool) → ended_clauses (cond t [] (weight_clause d ∷ [])) ++ ended_clauses (weight_clauses ds)
        ≡ ended_clauses (cond t (weight_clauses ds) (weight_clause d ∷ weight_clauses ds))
    by true = refl
    by false = append_assoc (weight_clause d) (codes ".\n") (ended_clauses (weight_clauses ds))

pub whole_written : (a b c : List ℕ) (all ds : List Declaration) (rs : List Rule) → all ≡ ds
    → a ≡ ended_clauses (declaration_clauses all) → b ≡ a ++ ended_clauses (weight_clauses all)
    → c ≡ b ++ ended_clauses (map (rule_clause ds) rs)
    → c ≡ canonical ds rs
whole_written a b c all ds rs is p q r =
    r ∙ ap (λ x. x ++ ended_clauses (map (rule_clause ds) rs))
    (q ∙ (λ i. p i ++ ended_clauses (weight_clauses all))
    ∙ ap (λ x. ended_clauses (declaration_clauses x) ++ ended_clauses (weight_clauses x)) is)
    ∙ append_assoc (ended_clauses (declaration_clauses ds)) (ended_clauses (weight_clauses ds))
    (ended_clauses (map (rule_clause ds) rs))
    ∙ sym (ended-append (declaration_clauses ds) (weight_clauses ds ++ map (rule_clause ds) rs)
    ∙ ap (λ x. ended_clauses (declaration_clauses ds) ++ x)
    (ended-append (weight_clauses ds) (map (rule_clause ds) rs)))

-- one more clause of weights, where the symbol needs one
pub weights_step : (all : List Declared) (i : ℕ) (d : Declared) (a b w : List ℕ) → i < length all
    → a ++ ended_clauses (weight_clauses (map declared_view (drop i all))) ≡ w
    → b ≡ a ++ ended_clauses (weight_clauses (declared_view (get_or all i d) ∷ []))
    → b ++ ended_clauses (weight_clauses (map declared_view (drop (i + 1) all))) ≡ w
weights_step all i d a b w l h e =
    let x = declared_view (get_or all i d) in let rest = map declared_view (drop (i + 1) all) in
    ap (λ y. y ++ ended_clauses (weight_clauses rest)) e ∙ append_assoc a (ended_clauses (weight_clauses (x ∷ [])))
    (ended_clauses (weight_clauses rest)) ∙ ap (λ y. a ++ y) (weights_more x rest)
    ∙ sym (ap (λ y. a ++ ended_clauses (weight_clauses (map declared_view y))) (drop_more all i d l)) ∙ h

-- one more declared symbol
pub declared_step : (xs ys : List Declared) (x : Declared) (i : ℕ) (ds : List Declaration) → map declared_view xs
    ≡ take i ds → ys ≡ xs ++ x ∷ [] → Some (declared_view x) ≡ slice_get ds i → i < length ds
    → map declared_view ys ≡ take (i + 1) ds
declared_step xs ys x i ds h e is l =
    ap (map declared_view) e ∙ map-append declared_view xs (x ∷ [])
    ∙ (let g = sym (get_or_from_slice_get ds i (declared_view x) (declared_view x) (sym is)) in
    λ j. h j ++ g j ∷ []) ∙ sym (take_more ds i (declared_view x) l)
