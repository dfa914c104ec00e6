-- The constants of every rule are 64-bit values: its type keeps that. And rules have one rising list of constants.
use Rattle.std.proofs.lemmas.Bool.{and_parts}
use Rattle.std.specs.Prelude.{◌≡◌, ℤ, ◌<ℤ◌, Bool, true, ◌&&◌, List, [], ◌∷◌, ◌++◌}
use Rattle.std.specs.List.{list_all}
use Rattle.std.proofs.Common.{inl, inr, ap, ◌∙◌, arith}
use Rattle.std.proofs.lemmas.Int.{ints}
use Rattle.chr_base.specs.declared.term.Term.{Term}
use Rattle.chr_base.specs.declared.term.Term.TheVariants.{Constant}
use Rattle.chr_base.specs.declared.term.Comparison.{Comparison}
use Rattle.chr_base.specs.declared.term.Pattern.{Pattern}
use Rattle.chr_base.specs.declared.rule.Rule.{Rule}
use Rattle.chr_base.specs.RuleTests.{terms_of, is_valued, are_valued}
use Rattle.chr_base.specs.Rules.{heads_of}
use Rattle.chr_base.proofs.Instances.{valued_rule}
use Rattle.chr_types.specs.OrderTypes.{In}
use Rattle.chr_types.proofs.RisingLists.{same_members}
use Rattle.chr_types.proofs.Members.{in_either}
use Rattle.chr_confluence.specs.Constants.{IsConstantOf, AreConstants, guard_terms, rule_terms}
use Rattle.chr_base.specs.Values.{is_value}

abbrev pub ConstantsFit : List Rule → Type 0
ConstantsFit rules = (c : ℤ) → IsConstantOf rules c → is_value c ≡ true

in_terms : (ts : List Term) (t : Term) → list_all is_valued ts ≡ true → In t ts → is_valued t ≡ true
in_terms [] t h i = absurd i
in_terms (x ∷ ts) t h (inl e) = ap is_valued e ∙ (and_parts _ (list_all is_valued ts) h).0
in_terms (x ∷ ts) t h (inr i) = in_terms ts t ((and_parts (is_valued x) _ h).1) i

in_patterns : (ps : List Pattern) (t : Term) → are_valued ps ≡ true → In t (terms_of ps) → is_valued t ≡ true
in_patterns [] t h i = absurd i
in_patterns (p ∷ ps) t h i =
    elim (in_either t p.args.items (terms_of ps) i) as (λ _. is_valued t ≡ true) [
      | inl j ↦ in_terms p.args.items t ((and_parts _ (are_valued ps) h).0) j
      | inr j ↦ in_patterns ps t ((and_parts (list_all is_valued p.args.items) _ h).1) j
    ]

abbrev guard_valued : List Comparison → Bool
guard_valued cs = list_all (λ c. is_valued c.left && is_valued c.right) cs

in_guard : (cs : List Comparison) (t : Term) → guard_valued cs ≡ true → In t (guard_terms cs) → is_valued t ≡ true
in_guard [] t h i = absurd i
in_guard (c ∷ cs) t h (inl e) = ap is_valued e ∙ (and_parts _ (is_valued c.right)
    ((and_parts _ (guard_valued cs) h).0)).0
in_guard (c ∷ cs) t h (inr (inl e)) = ap is_valued e ∙ (and_parts (is_valued c.left) _
    ((and_parts _ (guard_valued cs) h).0)).1
in_guard (c ∷ cs) t h (inr (inr i)) = in_guard cs t ((and_parts (is_valued c.left && is_valued c.right) _ h).1) i

in_rule : (r : Rule) (t : Term) → In t (rule_terms r) → is_valued t ≡ true
in_rule r t i =
    let v = valued_rule r in
    let some = (and_parts (are_valued (heads_of r) && guard_valued r.guard.items) (are_valued r.body.items) v).0 in
    elim (in_either t (terms_of (heads_of r) ++ guard_terms r.guard.items) (terms_of r.body.items) i) as (λ _.
    is_valued t ≡ true) [
      | inl j ↦ elim (in_either t (terms_of (heads_of r)) (guard_terms r.guard.items) j) as (λ _. is_valued t ≡ true) [
        | inl k ↦ in_patterns (heads_of r) t ((and_parts _ (guard_valued r.guard.items) some).0) k
        | inr k ↦ in_guard r.guard.items t ((and_parts (are_valued (heads_of r)) _ some).1) k
      ]
      | inr j ↦ in_patterns r.body.items t ((and_parts (are_valued (heads_of r) && guard_valued r.guard.items) _ v).1) j
    ]

pub constants_fit : (rules : List Rule) → ConstantsFit rules
constants_fit rules c h = in_rule h.1 (Constant c) h.3

pub one_constants : (rules : List Rule) (cs ds : List ℤ) → AreConstants rules cs → AreConstants rules ds → cs ≡ ds
one_constants rules cs ds a b =
    same_members {A = ℤ} ◌<ℤ◌ (λ c h. omega (arith, ints, h)) (λ c d e h g. omega (arith, ints, h, g)) cs ds a.rise
    b.rise
    (λ c i. b.all c (a.stand c i)) (λ c i. a.all c (b.stand c i))
