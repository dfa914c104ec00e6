-- The variables of a rule's heads are 1, 2, .. up to their number.
use Rattle.std.specs.Prelude.{◌≡◌, ℕ, ◌+◌, ◌<◌, ◌≤◌, true, false, ◌&&◌, ◌||◌, cond, nat_eq, nat_le, nat_lt, List, []}
use Rattle.std.specs.Prelude.{◌∷◌, ◌++◌, Option, Some, None, is_some, length}
use mathlib.Core.Bool.{true≢false}
use Rattle.std.specs.Option.{unwrap_or}
use Rattle.std.specs.List.{list_any}
use Rattle.std.proofs.Common.{refl, sym, ap, subst, inl, inr, arith}
use Rattle.std.proofs.lemmas.Bool.{eqb-true, eqb-false, eq-eqb, ltb-true, leb-true, or_left, or_right, and_parts}
use Rattle.chr_base.specs.declared.term.Term.{Term}
use Rattle.chr_base.specs.declared.term.Term.TheVariants.{Variable, Constant}
use Rattle.chr_base.specs.declared.term.Pattern.{Pattern}
use Rattle.chr_base.specs.declared.rule.Rule.{Rule}
use Rattle.chr_base.specs.RuleTests.{is_variable, occurs, terms_of, numbered, is_closed}
use Rattle.chr_base.specs.Rules.{heads_of}
use Rattle.chr_types.specs.OrderTypes.{In}
use Rattle.chr_types.proofs.Members.{in_first, in_second, in_either}
use Rattle.chr_confluence.specs.Overlaps.{variables_of}
use Rattle.chr_confluence.proofs.Solving.{same_variable}

-- ---- the test as membership

pub variable_in : (x : ℕ) (ts : List Term) → list_any (is_variable x) ts ≡ true → In (Variable x) ts
variable_in x [] h = absurd (true≢false (sym h))
variable_in x (Constant c ∷ ts) h = inr (variable_in x ts h)
variable_in x (Variable y ∷ ts) h = elim (nat_eq x y) as (λ b. nat_eq x y ≡ b → (b || list_any (is_variable x) ts)
    ≡ true → In (Variable x) (Variable y ∷ ts)) [
      | true ↦ λ e _. inl (ap Variable (eqb-true x y e))
      | false ↦ λ e h. inr (variable_in x ts h)
    ] refl h

pub in_variable : (x : ℕ) (ts : List Term) → In (Variable x) ts → list_any (is_variable x) ts ≡ true
in_variable x [] i = absurd i
in_variable x (Constant c ∷ ts) (inl e) = absurd cc
in_variable x (Constant c ∷ ts) (inr i) = in_variable x ts i
in_variable x (Variable y ∷ ts) (inl e) = or_left (nat_eq x y) _ (eq-eqb x y (same_variable x y e))
in_variable x (Variable y ∷ ts) (inr i) = or_right (nat_eq x y) _ (in_variable x ts i)

pub occurs_in : (x : ℕ) (ps : List Pattern) → occurs x ps ≡ true → In (Variable x) (terms_of ps)
occurs_in x [] h = absurd (true≢false (sym h))
occurs_in x (p ∷ ps) h = elim (list_any (is_variable x) p.args.items) as (λ b. list_any (is_variable x) p.args.items ≡ b
    → (b || occurs x ps) ≡ true → In (Variable x) (p.args.items ++ terms_of ps)) [
      | true ↦ λ e _. in_first _ p.args.items (terms_of ps) (variable_in x p.args.items e)
      | false ↦ λ e h. in_second _ p.args.items (terms_of ps) (occurs_in x ps h)
    ] refl h

pub in_occurs : (x : ℕ) (ps : List Pattern) → In (Variable x) (terms_of ps) → occurs x ps ≡ true
in_occurs x [] i = absurd i
in_occurs x (p ∷ ps) i = elim (in_either (Variable x) p.args.items (terms_of ps) i) as (λ _. occurs x (p ∷ ps) ≡ true) [
  | inl j ↦ or_left (list_any (is_variable x) p.args.items) (occurs x ps) (in_variable x p.args.items j)
  | inr j ↦ or_right (list_any (is_variable x) p.args.items) (occurs x ps) (in_occurs x ps j)
]

-- ---- how variables are numbered

record Numbers (k n : ℕ) (ts : List Term) : Type 0 where
  from : k ≤ n
  each : (x : ℕ) → In (Variable x) ts → (0 < x) × (x ≤ n)
  all : (x : ℕ) → k < x → x ≤ n → In (Variable x) ts

numbers : (ts : List Term) (k n : ℕ) → numbered k ts ≡ Some n → Numbers k n ts
numbers [] k n h = let e : k ≡ n = ap (λ o. unwrap_or o 0) h in
    record { from = omega (arith, e); each = λ x i. absurd i; all = λ x l g. absurd (omega (arith, e, l, g)) }
numbers (Constant c ∷ ts) k n h =
    let m = numbers ts k n h in
    record {
      from = m.from;
      each = λ x i. elim i as (λ _. (0 < x) × (x ≤ n)) [ inl e ↦ absurd cc | inr j ↦ m.each x j ];
      all = λ x l g. inr (m.all x l g);
    }
numbers (Variable y ∷ ts) k n h = elim (nat_eq y (k + 1)) as (λ b. nat_eq y (k + 1) ≡ b
    → cond b (numbered (k + 1) ts) (cond (nat_lt 0 y && nat_le y k) (numbered k ts) None) ≡ Some n
    → Numbers k n (Variable y ∷ ts)) [
      | true ↦ λ e h. next (eqb-true y (k + 1) e) (numbers ts (k + 1) n h)
      | false ↦ λ _ h. elim (nat_lt 0 y && nat_le y k) as (λ b. (nat_lt 0 y && nat_le y k) ≡ b
          → cond b (numbered k ts) None
          ≡ Some n → Numbers k n (Variable y ∷ ts)) [
            | true ↦ λ e h. again e (numbers ts k n h)
            | false ↦ λ _ h. absurd cc
          ] refl h
    ] refl h
  where
    next : y ≡ k + 1 → Numbers (k + 1) n ts → Numbers k n (Variable y ∷ ts)
    next e m = let f = m.from in record {
      from = omega (arith, f);
      each = λ x i. elim i as (λ _. (0 < x) × (x ≤ n)) [
        | inl q ↦ (let p = same_variable x y q in (omega (arith, p, e), omega (arith, p, e, f)))
        | inr j ↦ m.each x j
      ];
      all = λ x l g. elim (nat_eq x y) as (λ b. nat_eq x y ≡ b → In (Variable x) (Variable y ∷ ts)) [
        | true ↦ λ q. inl (ap Variable (eqb-true x y q))
        | false ↦ λ q. inr (m.all x (let p = eqb-false x y q in omega (arith, l, e, p)) g)
      ] refl;
    }

    again : (nat_lt 0 y && nat_le y k) ≡ true → Numbers k n ts → Numbers k n (Variable y ∷ ts)
    again e m = let f = m.from in let z = ltb-true 0 y ((and_parts _ _ e).0) in let l =
        leb-true y k ((and_parts (nat_lt 0 y) _ e).1) in record {
          from = f;
          each = λ x i. elim i as (λ _. (0 < x) × (x ≤ n)) [
            | inl q ↦ (let p = same_variable x y q in (omega (arith, p, z), omega (arith, p, l, f)))
            | inr j ↦ m.each x j
          ];
          all = λ x l g. inr (m.all x l g);
        }

rule_numbered : (r : Rule) → (n : ℕ) × (numbered 0 (terms_of (heads_of r)) ≡ Some n)
rule_numbered r = by (numbered 0 (terms_of (heads_of r)))
    ((and_parts (nat_lt 0 (length r.removed.items) && nat_le (length r.kept.items + length r.removed.items) 4
    && is_closed (heads_of r) r.guard.items r.body.items) _ r.well_formed).1)
  where
    by : (o : Option ℕ) → is_some o ≡ true → (n : ℕ) × (o ≡ Some n)
    by None h = absurd (true≢false (sym h))
    by (Some n) h = (n, refl)

rule_numbers : (r : Rule) → Numbers 0 (variables_of r) (terms_of (heads_of r))
rule_numbers r = let w = rule_numbered r in subst (λ n. Numbers 0 n (terms_of (heads_of r)))
    (sym (ap (λ o. unwrap_or o 0) w.1)) (numbers (terms_of (heads_of r)) 0 w.0 w.1)

pub head_variable : (r : Rule) (x : ℕ) → In (Variable x) (terms_of (heads_of r)) → (0 < x) × (x ≤ variables_of r)
head_variable r x i = (rule_numbers r).each x i

pub variable_stands : (r : Rule) (x : ℕ) → 0 < x → x ≤ variables_of r → In (Variable x) (terms_of (heads_of r))
variable_stands r x l g = (rule_numbers r).all x l g
