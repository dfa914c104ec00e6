-- Each rule lowers the weights or doesn't, and where some don't there is a first.
use Rattle.std.specs.Prelude.{◌≡◌, ℕ, zero, suc, pos, ◌+◌, ◌-◌, ◌<◌, ◌≤◌, ◌⊎◌, List, [], ◌∷◌, Some, slice_get}
use Rattle.std.proofs.Common.{arith, inl, inr, refl, sym, ap, subst, ◌∙◌}
use Rattle.std.proofs.lemmas.Bool.{cases_lt}
use Rattle.std.proofs.lemmas.List.{length-map}
use Rattle.std.proofs.lemmas.Option.{none-some}
use Rattle.chr_base.specs.declared.rule.Rule.{Rule}
use Rattle.chr_base.specs.declared.term.Pattern.{Pattern}
use Rattle.chr_base.specs.declared.weight.Weight.{Weight}
use Rattle.chr_base.specs.FinBag.{total}
use Rattle.chr_base.specs.ProgramTests.{Declaration}
use Rattle.chr_base.specs.Rules.{Valuation, atom_at, atoms_at, term_value}
use Rattle.chr_base.specs.Weights.{IsLighter, total_weight}
use Rattle.chr_weights.specs.Weights.{AreLowering, IsLowering, IsFirstNotLowered, declared_weight, weight_by}

zeros : Valuation
zeros x = pos 0

-- of two weights the one is lighter than the other, or not
lighter_or_not : (v w : Weight) → IsLighter v w ⊎ (¬ IsLighter v w)
lighter_or_not v w = elim (cases_lt v.first w.first) as (λ _. IsLighter v w ⊎ (¬ IsLighter v w)) [
  | inl l ↦ inl (inl l)
  | inr m ↦ elim (cases_lt w.first v.first) as (λ _. IsLighter v w ⊎ (¬ IsLighter v w)) [
    | inl g ↦ inr (λ h. not_above m g h)
    | inr n ↦ elim (cases_lt v.second w.second) as (λ _. IsLighter v w ⊎ (¬ IsLighter v w)) [
      | inl k ↦ inl (inr (omega (arith, m, n), k))
      | inr k ↦ inr (λ h. not_beside m k h)
    ]
  ]
]
  where
    not_above : w.first ≤ v.first → w.first < v.first → IsLighter v w → ⊥
    not_above m g (inl h) = omega (arith, m, h)
    not_above m g (inr h) = let e = h.0 in omega (arith, g, e)

    not_beside : w.first ≤ v.first → w.second ≤ v.second → IsLighter v w → ⊥
    not_beside m k (inl h) = omega (arith, m, h)
    not_beside m k (inr h) = let e = h.1 in omega (arith, k, e)

module _ (ds : List Declaration) where
  -- values don't change what a pattern's atom weighs
  pattern_weighs : (v w : Valuation) (p : Pattern) → weight_by ds (atom_at v p) ≡ weight_by ds (atom_at w p)
  pattern_weighs v w p = ap (declared_weight (slice_get ds p.symbol.0))
      (length-map p.args.items (term_value v) ∙ sym (length-map p.args.items (term_value w)))

  total_weighs : (f : Weight → ℕ) (v w : Valuation) (ps : List Pattern)
      → total (λ a. f (weight_by ds a)) (atoms_at v ps) ≡ total (λ a. f (weight_by ds a)) (atoms_at w ps)
  total_weighs f v w [] = refl
  total_weighs f v w (p ∷ ps) = let a = ap f (pattern_weighs v w p) in let b = total_weighs f v w ps in λ k. a k + b k

  patterns_weigh : (v w : Valuation) (ps : List Pattern) → total_weight (weight_by ds) (atoms_at v ps)
      ≡ total_weight (weight_by ds) (atoms_at w ps)
  patterns_weigh v w ps =
      let a = total_weighs (λ x. x.first) v w ps in
      let b = total_weighs (λ x. x.second) v w ps in
      λ k. record { first = a k; second = b k }

  abbrev before : Rule → Weight
  before r = total_weight (weight_by ds) (atoms_at zeros r.removed.items)

  abbrev after : Rule → Weight
  after r = total_weight (weight_by ds) (atoms_at zeros r.body.items)

  lowers_where : (r : Rule) → IsLighter (after r) (before r) → IsLowering (weight_by ds) r
  lowers_where r h v =
      subst (λ x. IsLighter x (total_weight (weight_by ds) (atoms_at v r.removed.items)))
      (patterns_weigh zeros v r.body.items)
      (subst (IsLighter (after r)) (patterns_weigh zeros v r.removed.items) h)

  -- the first rule of the list that doesn't lower, which is the n-th after it
  first_here : (r : Rule) (rules : List Rule) → (¬ IsLighter (after r) (before r)) → IsFirstNotLowered ds (r ∷ rules) 1
      (before r) (after r)
  first_here r rules heavy = record {
    first = omega arith;
    within = omega arith;
    earlier = λ j q l e. absurd (omega (arith, l));
    weight_before = λ q v e. (let f : Some r ≡ Some q = e in let g : r ≡ q = cc in
        ap before g ∙ patterns_weigh zeros v q.removed.items);
    weight_after = λ q v e. (let f : Some r ≡ Some q = e in let g : r ≡ q = cc in
        ap after g ∙ patterns_weigh zeros v q.body.items);
    not_lowered = heavy;
  }

  first_later : (r : Rule) (rules : List Rule) (i : ℕ) (b a : Weight) → IsLowering (weight_by ds) r
      → IsFirstNotLowered ds rules (suc i) b a → IsFirstNotLowered ds (r ∷ rules) (suc (suc i)) b a
  first_later r rules i b a lowers h = record {
    first = omega arith;
    within = (let w = h.within in omega (arith, w));
    earlier = earlier;
    weight_before = λ q v e. h.weight_before q v (back q e);
    weight_after = λ q v e. h.weight_after q v (back q e);
    not_lowered = h.not_lowered;
  }
    where
      back : (q : Rule) → slice_get (r ∷ rules) (suc (suc i) - 1) ≡ Some q → slice_get rules (suc i - 1) ≡ Some q
      back q e =
          let m : suc (suc i) - 1 ≡ suc i = omega arith in
          let n : i ≡ suc i - 1 = omega arith in
          let f : slice_get rules i ≡ Some q = subst (λ k. slice_get (r ∷ rules) k ≡ Some q) m e in
          subst (λ k. slice_get rules k ≡ Some q) n f

      earlier : (j : ℕ) (q : Rule) → j + 1 < suc (suc i) → slice_get (r ∷ rules) j ≡ Some q
          → IsLowering (weight_by ds) q
      earlier zero q l e = let f : Some r ≡ Some q = e in let g : r ≡ q = cc in
          subst (IsLowering (weight_by ds)) g lowers
      earlier (suc j) q l e = h.earlier j q (omega (arith, l)) e

  all_later : (r : Rule) (rules : List Rule) → IsLowering (weight_by ds) r → AreLowering (weight_by ds) rules
      → AreLowering (weight_by ds) (r ∷ rules)
  all_later r rules lowers all zero q e = let f : Some r ≡ Some q = e in let g : r ≡ q = cc in
      subst (IsLowering (weight_by ds)) g lowers
  all_later r rules lowers all (suc j) q e = all j q e

  abbrev HasFirst : List Rule → Type 0
  HasFirst rules = (i : ℕ) × (b : Weight) × (a : Weight) × IsFirstNotLowered ds rules (suc i) b a

  -- all rules lower the weights, or there is a first that doesn't
  all_or_first : (rules : List Rule) → AreLowering (weight_by ds) rules ⊎ HasFirst rules
  all_or_first [] = inl (λ i r e. absurd (none-some r e))
  all_or_first (r ∷ rules) = by (lighter_or_not (after r) (before r)) (all_or_first rules)
    where
      by : IsLighter (after r) (before r) ⊎ (¬ IsLighter (after r) (before r)) → AreLowering (weight_by ds) rules
          ⊎ HasFirst rules → AreLowering (weight_by ds) (r ∷ rules) ⊎ HasFirst (r ∷ rules)
      by (inr heavy) more = inr (0, before r, after r, first_here r rules heavy)
      by (inl l) (inl all) = inl (all_later r rules (lowers_where r l) all)
      by (inl l) (inr w) = inr (suc w.0, w.1, w.2, first_later r rules w.0 w.1 w.2 (lowers_where r l) w.3)

pub lowers_or_first : (ds : List Declaration) (rules : List Rule)
    → AreLowering (weight_by ds) rules ⊎ ((i : ℕ) × (before : Weight) × (after : Weight)
    × IsFirstNotLowered ds rules i before after)
lowers_or_first ds rules = elim (all_or_first ds rules) as (λ _. AreLowering (weight_by ds) rules
    ⊎ ((i : ℕ) × (b : Weight) × (a : Weight) × IsFirstNotLowered ds rules i b a)) [
      | inl all ↦ inl all
      | inr w ↦ inr (suc w.0, w.1, w.2, w.3)
    ]
