-- Weights summed over patterns, and what a program's form says of its rules.
use Rattle.std.proofs.lemmas.Bool.{and_parts}
use Rattle.std.specs.Prelude.{◌≡◌, ℕ, zero, suc, ◌+◌, ◌-◌, ◌<◌, ◌≤◌, Bool, true, false, nat_eq, List, [], ◌∷◌, length}
use Rattle.std.specs.Prelude.{get_or, take, Option, Some, None, slice_get, option_map, IsTrue, pos, drop, ◌↔◌}
use Rattle.std.specs.List.{list_all}
use Rattle.std.proofs.Common.{refl, sym, ap, subst, ◌∙◌, arith, inl, inr}
use mathlib.Core.Bool.{true≢false}
use Rattle.std.proofs.lemmas.Bool.Decides.{nat_tests}
use Rattle.std.proofs.lemmas.Option.{slice_get_read, slice_get_within, slice_get_cases}
use Rattle.std.proofs.lemmas.List.{map_more, take_more, take-append-drop}
use Rattle.chr_base.specs.declared.atom.Atom.{Atom}
use Rattle.chr_base.specs.declared.term.Pattern.{Pattern}
use Rattle.chr_base.specs.declared.rule.Rule.{Rule}
use Rattle.chr_base.specs.declared.program.Program.{Program}
use Rattle.chr_base.specs.FinBag.{total}
use Rattle.chr_base.proofs.FinBags.{total-append}
use Rattle.chr_base.specs.Rules.{Valuation, atoms_at, atom_at, term_value}
use Rattle.chr_base.specs.declared.weight.Weight.{Weight}
use Rattle.chr_base.specs.Weights.{IsLighter, sum, total_weight}
use Rattle.std.proofs.lemmas.List.{length-map}
use Rattle.chr_base.specs.ProgramTests.{Declaration, is_declared, takes}
use Rattle.chr_base.specs.Programs.{declarations, rules_of}
use Rattle.chr_weights.specs.Weights.{declared_weight, weight_in, IsLowering, ProgramLowers, IsFirstNotLowered}

-- what a test says that answers false, and one that answers true
pub refuted_by : {X : Type 0} (b : Bool) → IsTrue b ↔ X → b ≡ false → ¬ X
refuted_by b h e x = true≢false (sym (h.1 x) ∙ e)

pub shown_by : {X : Type 0} (b : Bool) → IsTrue b ↔ X → b ≡ true → X
shown_by b h e = h.0 e

pub all_at : {A : Type 0} (p : A → Bool) (xs : List A) (i : ℕ) (x : A) → list_all p xs ≡ true → slice_get xs i ≡ Some x
    → p x ≡ true
all_at p [] i x h e = absurd (let f : None ≡ Some x = e in cc)
all_at p (y ∷ ys) zero x h e = (let f : y ≡ x = cc in subst (λ z. p z ≡ true) f ((and_parts _ (list_all p ys) h).0))
all_at p (y ∷ ys) (suc i) x h e = all_at p ys i x ((and_parts (p y) _ h).1) e

-- a declared symbol is in the table
pub declared_within : (ds : List Declaration) (i n : ℕ) → takes (slice_get ds i) n ≡ true → i < length ds
declared_within ds i n h = by (slice_get ds i) refl h
  where
    by : (o : Option Declaration) → slice_get ds i ≡ o → takes o n ≡ true → i < length ds
    by None e h = absurd (true≢false (sym h))
    by (Some d) e h = slice_get_within ds i d e

-- the weight of a declared symbol is the one that the table has
pub weight_found : (ds : List Declaration) (i n : ℕ) (w : Weight) → takes (slice_get ds i) n ≡ true → Some w
    ≡ option_map (λ d. d.weight) (slice_get ds i) → w ≡ declared_weight (slice_get ds i) n
weight_found ds i n w h e = by (slice_get ds i) h e
  where
    by : (o : Option Declaration) → takes o n ≡ true → Some w ≡ option_map (λ d. d.weight) o → w ≡ declared_weight o n
    by None h e = absurd (true≢false (sym h))
    by (Some d) h e = rw h (let f : w ≡ d.weight = cc in f)

-- the next pattern is declared
pub next_declared : (p : Program) (ps : List Pattern) (i : ℕ) (x : Pattern) → list_all (is_declared (declarations p)) ps
    ≡ true → i < length ps → x ≡ get_or ps i x → is_declared (declarations p) x ≡ true
next_declared p ps i x h l is = all_at (is_declared (declarations p)) ps i x h
    (slice_get_read ps (length ps) i x refl l is)

-- a pattern's atom weighs what its symbol does
pub pattern_weight : (p : Program) (x : Pattern) (w : Weight) (v : Valuation) → is_declared (declarations p) x ≡ true
    → Some w ≡ option_map (λ d. d.weight) (slice_get (declarations p) x.symbol.0) → w ≡ weight_in p (atom_at v x)
pattern_weight p x w v h e =
    weight_found (declarations p) x.symbol.0 (length x.args.items) w h e
    ∙ ap (declared_weight (slice_get (declarations p) x.symbol.0)) (sym (length-map x.args.items (term_value v)))

-- one pattern more, by one number of the weights
pattern_more : (f : Atom → ℕ) (ps : List Pattern) (i : ℕ) (x : Pattern) (v : Valuation) → i < length ps
    → x ≡ get_or ps i x
    → total f (atoms_at v (take i ps)) + f (atom_at v x) ≡ total f (atoms_at v (take (i + 1) ps))
pattern_more f ps i x v l is =
    let a = map_more (atom_at v) ps i x l in
    let b = ap (total f) a in
    let c = total-append f (atoms_at v (take i ps)) (atom_at v (get_or ps i x) ∷ []) in
    let d = ap (λ y. f (atom_at v y)) is in
    omega (arith, b, c, d)

-- one pattern more
pub patterns_more : (w : Atom → Weight) (ps : List Pattern) (i : ℕ) (x : Pattern) (v : Valuation) (s y t : Weight)
    → i < length ps → x ≡ get_or ps i x → y ≡ w (atom_at v x) → s ≡ total_weight w (atoms_at v (take i ps))
    → t ≡ sum s y → t ≡ total_weight w (atoms_at v (take (i + 1) ps))
patterns_more w ps i x v s y t l is e h h2 =
    let a = pattern_more (λ q. (w q).first) ps i x v l is in
    let b = pattern_more (λ q. (w q).second) ps i x v l is in
    h2 ∙ (λ k. sum (h k) (e k)) ∙ (λ k. record { first = a k; second = b k })

-- one atom more
pub total_more : (w : Atom → ℕ) (xs : List Atom) (i : ℕ) (x : Atom) → i < length xs → x ≡ get_or xs i x
    → total w (take (i + 1) xs) ≡ total w (take i xs) + w x
total_more w xs i x l is =
    let b = ap (total w) (take_more xs i x l) in
    let c = total-append w (take i xs) (get_or xs i x ∷ []) in
    let d = ap w is in
    omega (arith, b, c, d)

pub total_prefix : (w : Atom → ℕ) (xs : List Atom) (n : ℕ) → total w (take n xs) ≤ total w xs
total_prefix w xs n =
    let a = ap (total w) (take-append-drop n xs) in
    let b = total-append w (take n xs) (drop n xs) in
    omega (arith, a, b)

-- the next sum fits, where the whole does
pub next_fits : (w : Atom → ℕ) (xs : List Atom) (i n : ℕ) (x : Atom) (k : ℕ) → total w xs < n → i < length xs
    → x ≡ get_or xs i x → k ≡ w x → total w (take i xs) + k < n
next_fits w xs i n x k h l is e = let a = total_more w xs i x l is in let b = total_prefix w xs (i + 1) in
    omega (arith, a, b, e, h)

-- one atom more
pub atoms_more : (w : Atom → Weight) (xs : List Atom) (i : ℕ) (x : Atom) (s y t : Weight) → i < length xs
    → x ≡ get_or xs i x → s ≡ total_weight w (take i xs) → y ≡ w x → t ≡ sum s y → t ≡ total_weight w (take (i + 1) xs)
atoms_more w xs i x s y t l is h e h2 =
    let a = total_more (λ q. (w q).first) xs i x l is in
    let b = total_more (λ q. (w q).second) xs i x l is in
    h2 ∙ (λ k. sum (h k) (e k)) ∙ sym (λ k. record { first = a k; second = b k })

-- where the rules before a place lower the weights, and the rule there does, one rule more does
pub lowers_more : (p : Program) (rs : List Rule) (n : ℕ) (x : Rule) → rs ≡ rules_of p → n < length rs
    → x ≡ get_or rs n x → ((k : ℕ) (r : Rule) → k < n → slice_get (rules_of p) k ≡ Some r → IsLowering (weight_in p) r)
    → IsLowering (weight_in p) x
    → (k : ℕ) (r : Rule) → k < n + 1 → slice_get (rules_of p) k ≡ Some r → IsLowering (weight_in p) r
lowers_more p rs n x same l is h lowers k r m e = by (nat_eq k n) refl
  where
    here : k ≡ n → IsLowering (weight_in p) r
    here f =
        let a : slice_get (rules_of p) n ≡ Some x = rw (← same) (slice_get_read rs (length rs) n x refl l is) in
        let b : slice_get (rules_of p) n ≡ Some r = subst (λ i. slice_get (rules_of p) i ≡ Some r) f e in
        let g : x ≡ r = cc in
        subst (IsLowering (weight_in p)) g lowers

    by : (b : Bool) → nat_eq k n ≡ b → IsLowering (weight_in p) r
    by true f = here (grind (arith, nat_tests))
    by false f = h k r (grind (arith, nat_tests)) e

-- each rule was looked at
pub all_lower : (p : Program) (rs : List Rule) (n : ℕ) → rs ≡ rules_of p → length rs ≤ n
    → ((k : ℕ) (r : Rule) → k < n → slice_get (rules_of p) k ≡ Some r → IsLowering (weight_in p) r) → ProgramLowers p
all_lower p rs n same l h i r e = let a = slice_get_within (rules_of p) i r e in let b = ap length same in
    h i r (omega (arith, a, b, l)) e

-- what the sums of one rule say of the rule at its place
pub at_place : (p : Program) (rs : List Rule) (n : ℕ) (x : Rule) (w : Weight) (f : Rule → List Pattern)
    → rs ≡ rules_of p → n < length rs → x ≡ get_or rs n x
    → ((v : Valuation) → w ≡ total_weight (weight_in p) (atoms_at v (f x)))
    → (r : Rule) (v : Valuation) → slice_get (rules_of p) (n + 1 - 1) ≡ Some r
    → w ≡ total_weight (weight_in p) (atoms_at v (f r))
at_place p rs n x w f same l is h r v e =
    let a : slice_get (rules_of p) n ≡ Some x = rw (← same) (slice_get_read rs (length rs) n x refl l is) in
    let m : n + 1 - 1 ≡ n = omega arith in
    let b : slice_get (rules_of p) n ≡ Some r = subst (λ i. slice_get (rules_of p) i ≡ Some r) m e in
    let g : x ≡ r = cc in
    h v ∙ ap (λ y. total_weight (weight_in p) (atoms_at v (f y))) g

-- a rule that does not lower refutes that all do
refuted : (p : Program) (n : ℕ) (before after : Weight) → IsFirstNotLowered (declarations p) (rules_of p) n before after
    → ¬ ProgramLowers p
refuted p n before after h all =
    elim (slice_get_cases (rules_of p) (n - 1)).1 as (λ _. ⊥) [
      | inl w ↦ (let z : Valuation = λ _. pos 0 in
          h.not_lowered (subst (λ x. IsLighter x before) (sym (h.weight_after w.0 z w.2))
          (subst (IsLighter (total_weight (weight_in p) (atoms_at z w.0.body.items)))
          (sym (h.weight_before w.0 z w.2)) (all (n - 1) w.0 w.2 z))))
      | inr w ↦ (let l = w.0 in let f = h.first in let g = h.within in omega (arith, l, f, g))
    ]

-- where some rule does not lower, the answer 'no' is exact
pub not_lowered : (p : Program) (n : ℕ) (before after : Weight) → IsFirstNotLowered (declarations p)
    (rules_of p) n before after → IsTrue false ↔ ProgramLowers p
not_lowered p n before after h = ((λ e. absurd (true≢false (sym e))), λ all. absurd (refuted p n before after h all))
