-- What the tests of equality of rules say.
use Rattle.std.proofs.Common.{◌≡◌, ℕ, Bool, true, List, refl, sym, ap, subst, ◌∙◌, rules}
use Rattle.std.specs.Prelude.{◌&&◌, Option, Some, None, option_map, nat_eq}
use Rattle.std.specs.Bool.{Decides}
use Rattle.std.specs.Option.{option_eq}
use Rattle.std.specs.Cmp.Lexicographic.{pointwise, pointwise_decides}
use mathlib.Core.Bool.{true≢false}
use Rattle.std.specs.Cmp.{unsigned_Decides, signed_Decides}
use Rattle.std.proofs.lemmas.Bool.{and_from, and_parts}
use Rattle.arrayvec.specs.declared.array_string.ArrayString.{ArrayString}
use Rattle.chr_base.specs.contracts.term.TermPartialEq.TheImpl.{eq-value}
use Rattle.chr_base.specs.contracts.term.CmpPartialEq.TheImpl as cmp
use Rattle.chr_base.specs.declared.limits.TheConstants.{MAX_NAME}
use Rattle.chr_base.specs.declared.term.Term.{Term}
use Rattle.chr_base.specs.declared.term.Term.TheVariants.{Variable, Constant}
use denote.Enum.Bare.{same_true}
use Rattle.chr_base.specs.contracts.term.Cmp.{the_type}
use Rattle.chr_base.specs.declared.term.Cmp.{Cmp}
use Rattle.chr_base.specs.declared.term.Cmp.TheVariants.{Less, AtMost, Greater, AtLeast, Equal, NotEqual}
use Rattle.chr_base.specs.declared.term.Comparison.{Comparison}
use Rattle.chr_base.specs.declared.term.Pattern.{Pattern}
use Rattle.chr_base.specs.declared.rule.Rule.{Rule}
use Rattle.chr_base.specs.Sameness.{parts_of}

term_same : (a b : Term) → eq-value.it a b ≡ true → a ≡ b
term_same (Variable x) (Variable y) h = ap Variable ((unsigned_Decides x y).0 h)
term_same (Variable x) (Constant d) h = absurd (true≢false (sym h))
term_same (Constant c) (Variable y) h = absurd (true≢false (sym h))
term_same (Constant c) (Constant d) h = ap Constant ((signed_Decides c d).0 h)

term_itself : (a : Term) → eq-value.it a a ≡ true
term_itself (Variable x) = (unsigned_Decides x x).1 refl
term_itself (Constant c) = (signed_Decides c c).1 refl

term_decides : (a b : Term) → Decides (eq-value.it a b) (a ≡ b)
term_decides a b = (term_same a b, λ e. subst (λ z. eq-value.it a z ≡ true) e (term_itself a))

pub pattern_decides : (a b : Pattern) → Decides (nat_eq a.symbol.0 b.symbol.0
    && pointwise eq-value.it a.args.items b.args.items) (a ≡ b)
pattern_decides a b = (
  λ h. (let n : a.symbol.0 ≡ b.symbol.0 = (unsigned_Decides a.symbol.0 b.symbol.0).0
      ((and_parts _ (pointwise eq-value.it a.args.items b.args.items) h).0) in
      let l : a.args.items ≡ b.args.items = (pointwise_decides term_decides a.args.items b.args.items).0
      ((and_parts (nat_eq a.symbol.0 b.symbol.0) _ h).1) in
      λ i. record { symbol = record { 0 = n i }; args = record { items = l i } }),
  λ e. and_from _ _ ((unsigned_Decides a.symbol.0 b.symbol.0).1 (ap (λ p. p.symbol.0) e))
      ((pointwise_decides term_decides a.args.items b.args.items).1 (ap (λ p. p.args.items) e)),
)

names_decide : (m n : Option (ArrayString MAX_NAME)) → Decides (option_eq (λ x y. pointwise nat_eq x.bytes y.bytes) m n)
    (option_map (λ x. x.bytes) m ≡ option_map (λ x. x.bytes) n)
names_decide None None = (λ h. refl, λ e. refl)
names_decide None (Some y) = (
  λ h. absurd (true≢false (sym h)),
  λ e. (let f : ◌≡◌ {A = Option (List ℕ)} None (Some y.bytes) = e in cc),
)
names_decide (Some x) None = (
  λ h. absurd (true≢false (sym h)),
  λ e. (let f : ◌≡◌ {A = Option (List ℕ)} (Some x.bytes) None = e in cc),
)
names_decide (Some x) (Some y) = (
  λ h. ap Some ((pointwise_decides unsigned_Decides x.bytes y.bytes).0 h),
  λ e. (let f : ◌≡◌ {A = Option (List ℕ)} (Some x.bytes) (Some y.bytes) = e in let g : x.bytes ≡ y.bytes = cc in
      (pointwise_decides unsigned_Decides x.bytes y.bytes).1 g),
)

sign_itself : (a : Cmp) → cmp.eq-value.it a a ≡ true
sign_itself Less = refl
sign_itself AtMost = refl
sign_itself Greater = refl
sign_itself AtLeast = refl
sign_itself Equal = refl
sign_itself NotEqual = refl

sign_decides : (a b : Cmp) → Decides (cmp.eq-value.it a b) (a ≡ b)
sign_decides a b = (
  same_true the_type (search rules) a b,
  λ e. subst (λ z. cmp.eq-value.it a z ≡ true) e
      (sign_itself a),
)

pub comparison_decides : (a b : Comparison) → Decides (eq-value.it a.left b.left
    && (cmp.eq-value.it a.cmp b.cmp && eq-value.it a.right b.right)) (a ≡ b)
comparison_decides a b = (
  λ h. (let l = (term_decides a.left b.left).0 ((and_parts (eq-value.it a.left b.left) _ h).0) in
      let rest : (cmp.eq-value.it a.cmp b.cmp && eq-value.it a.right b.right) ≡ true =
      (and_parts (eq-value.it a.left b.left) _ h).1 in
      let m = (sign_decides a.cmp b.cmp).0 ((and_parts (cmp.eq-value.it a.cmp b.cmp) _ rest).0) in
      let r = (term_decides a.right b.right).0 ((and_parts (cmp.eq-value.it a.cmp b.cmp) _ rest).1) in
      λ i. record { left = l i; cmp = m i; right = r i }),
  λ e. and_from _ _ ((term_decides a.left b.left).1 (ap (λ c. c.left) e))
      (and_from _ _ ((sign_decides a.cmp b.cmp).1 (ap (λ c. c.cmp) e))
      ((term_decides a.right b.right).1 (ap (λ c. c.right) e))),
)

pub both_decide : {A B : Type 0} (a b : Bool) → Decides a A → Decides b B → Decides (a && b) (A × B)
both_decide a b p q = (
  λ h. (p.0 ((and_parts a b h).0), q.0 ((and_parts a b h).1)),
  λ w. and_from a b (p.1 w.0)
      (q.1 w.1),
)

pub parts_decide : (P : Pattern → Pattern → Bool) (C : Comparison → Comparison → Bool)
    → ((a b : Pattern) → Decides (P a b) (a ≡ b)) → ((a b : Comparison) → Decides (C a b) (a ≡ b))
    → (r s : Rule) (b : Bool) → b ≡ (option_eq (λ m n. pointwise nat_eq m.bytes n.bytes) r.name s.name
    && (pointwise P r.kept.items s.kept.items && (pointwise P r.removed.items s.removed.items
    && (pointwise C r.guard.items s.guard.items && pointwise P r.body.items s.body.items))))
    → Decides b (parts_of r ≡ parts_of s)
parts_decide P C p c r s b e =
    let d = both_decide _ _ (names_decide r.name s.name)
    (both_decide _ _ (pointwise_decides p r.kept.items s.kept.items)
    (both_decide _ _ (pointwise_decides p r.removed.items s.removed.items)
    (both_decide _ _ (pointwise_decides c r.guard.items s.guard.items)
    (pointwise_decides p r.body.items s.body.items)))) in (
      λ h. (let w = d.0 (sym e ∙ h) in λ i. record {
        name = w.0 i;
        kept = w.1.0 i;
        removed = w.1.1.0 i;
        guard =
            w.1.1.1.0 i;
        body = w.1.1.1.1 i;
      }),
      λ q. e ∙ d.1 (
        ap (λ x. x.name) q,
        (
          ap (λ x. x.kept) q,
          (ap (λ x. x.removed) q, (ap (λ x. x.guard) q, ap (λ x. x.body) q)),
        ),
      ),
    )
