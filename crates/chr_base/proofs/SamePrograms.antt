-- What the tests of equality of programs say.
use Rattle.std.proofs.Common.{◌≡◌, Bool, true, false, List, [], ◌∷◌, refl, sym, ap, ◌∙◌}
use Rattle.std.specs.Prelude.{◌&&◌, map}
use Rattle.std.specs.Bool.{Decides}
use Rattle.std.specs.Cmp.{unsigned_Decides}
use Rattle.std.specs.Cmp.Lexicographic.{pointwise, pointwise_decides}
use mathlib.Core.Bool.{true≢false}
use Rattle.chr_base.specs.contracts.program.SymbolPartialEq.TheImpl as symbol
use Rattle.chr_base.specs.contracts.rule.RulePartialEq.TheImpl as rule
use Rattle.chr_base.specs.contracts.weight.WeightPartialEq.TheImpl as weight
use Rattle.chr_base.specs.declared.weight.Weight.{Weight}
use Rattle.chr_base.specs.declared.program.Symbol.{Symbol}
use Rattle.chr_base.specs.declared.program.Program.{Program}
use Rattle.chr_base.specs.declared.rule.Rule.{Rule}
use Rattle.chr_base.specs.ProgramTests.{declared}
use Rattle.chr_base.specs.Sameness.{AreSame, parts_of}
use Rattle.chr_base.proofs.SameRules.{both_decide, parts_decide, pattern_decides, comparison_decides}

-- where a test of items decides whether g makes them equal, the test of lists decides whether `map g` makes these equal
seen_alike : {A B : Type 0} (E : A → A → Bool) (g : A → B) → ((a b : A) → Decides (E a b) (g a ≡ g b))
    → (xs ys : List A) → Decides (pointwise E xs ys) (map g xs ≡ map g ys)
seen_alike E g d [] [] = (λ h. refl, λ e. refl)
seen_alike {A} {B} E g d [] (y ∷ ys) = (
  λ h. absurd (true≢false (sym h)),
  λ e. (let f : ◌≡◌ {A = List B} [] (g y ∷ map g ys) = e in cc),
)
seen_alike {A} {B} E g d (x ∷ xs) [] = (
  λ h. absurd (true≢false (sym h)),
  λ e. (let f : ◌≡◌ {A = List B} (g x ∷ map g xs) [] = e in cc),
)
seen_alike {A} {B} E g d (x ∷ xs) (y ∷ ys) =
    let more = seen_alike E g d xs ys in
    let both = both_decide (E x y) (pointwise E xs ys) (d x y) more in (
      λ h. (let w = both.0 h in λ i. w.0 i ∷ w.1 i),
      λ e. (let f : ◌≡◌ {A = List B} (g x ∷ map g xs) (g y ∷ map g ys) = e in let a : g x ≡ g y = cc in
          let b : map g xs ≡ map g ys = cc in both.1 (a, b)),
    )

weight_decides : (v w : Weight) → Decides (weight.eq-value.it v w) (v ≡ w)
weight_decides v w =
    let both = both_decide _ _ (unsigned_Decides v.first w.first) (unsigned_Decides v.second w.second) in (
      λ h. (let e = both.0 h in λ i. record { first = e.0 i; second = e.1 i }),
      λ q. both.1 (ap (λ (x : Weight). x.first) q, ap (λ (x : Weight). x.second) q),
    )

entry_decides : (e f : Symbol × Weight) → Decides (symbol.eq-value.it e.0 f.0 && weight.eq-value.it e.1 f.1)
    (declared e ≡ declared f)
entry_decides e f =
    let both = both_decide _ _ (both_decide _ _ (pointwise_decides unsigned_Decides e.0.name.bytes f.0.name.bytes)
    (unsigned_Decides e.0.arity f.0.arity)) (weight_decides e.1 f.1) in (
      λ h. (let w = both.0 h in λ i. record { name = w.0.0 i; arity = w.0.1 i; weight = w.1 i }),
      λ q. both.1 ((ap (λ d. d.name) q, ap (λ d. d.arity) q), ap (λ d. d.weight) q),
    )

rule_decides : (r s : Rule) → Decides (rule.eq-value.it r s) (parts_of r ≡ parts_of s)
rule_decides r s = parts_decide _ _ pattern_decides comparison_decides r s (rule.eq-value.it r s) refl

symbols_decide : (es fs : List (Symbol × Weight)) → Decides
    (pointwise (λ e f. symbol.eq-value.it e.0 f.0 && weight.eq-value.it e.1 f.1) es fs)
    (map declared es ≡ map declared fs)
symbols_decide es fs =
    seen_alike (λ (e f : Symbol × Weight). symbol.eq-value.it e.0 f.0 && weight.eq-value.it e.1 f.1) declared
    entry_decides es fs

pub programs_decide : (p q : Program) (es fs : List (Symbol × Weight)) (rs ss : List Rule) (a b : Bool)
    → es ≡ p.symbols.entries → fs ≡ q.symbols.entries → rs ≡ p.rules.items → ss ≡ q.rules.items
    → a ≡ pointwise (λ e f. symbol.eq-value.it e.0 f.0 && weight.eq-value.it e.1 f.1) es fs → a ≡ true
    → b ≡ pointwise rule.eq-value.it rs ss → Decides b (AreSame p q)
programs_decide p q es fs rs ss a b is_es is_fs is_rs is_ss x t y =
    let d = symbols_decide p.symbols.entries q.symbols.entries in
    let r = seen_alike rule.eq-value.it parts_of rule_decides p.rules.items q.rules.items in
    let u : b ≡ pointwise rule.eq-value.it p.rules.items q.rules.items =
    y ∙ (λ i. pointwise rule.eq-value.it (is_rs i) (is_ss i)) in
    let v : pointwise (λ e f. symbol.eq-value.it e.0 f.0 && weight.eq-value.it e.1 f.1) p.symbols.entries
    q.symbols.entries ≡ true
    = sym (x ∙ (λ i. pointwise (λ e f. symbol.eq-value.it e.0 f.0 && weight.eq-value.it e.1 f.1) (is_es i) (is_fs i)))
    ∙ t in
    (λ h. (d.0 v, r.0 (sym u ∙ h)), λ w. u ∙ r.1 w.1)

pub other_symbols : (p q : Program) (es fs : List (Symbol × Weight)) (a : Bool) → es ≡ p.symbols.entries
    → fs ≡ q.symbols.entries
    → a ≡ pointwise (λ e f. symbol.eq-value.it e.0 f.0 && weight.eq-value.it e.1 f.1) es fs → a ≡ false
    → Decides a (AreSame p q)
other_symbols p q es fs a is_es is_fs x n =
    let d = symbols_decide p.symbols.entries q.symbols.entries in (
      λ h. absurd (true≢false (sym h ∙ n)),
      λ w. x ∙ (λ i. pointwise
          (λ e f. symbol.eq-value.it e.0 f.0 && weight.eq-value.it e.1 f.1) (is_es i) (is_fs i)) ∙ d.1 w.0,
    )
