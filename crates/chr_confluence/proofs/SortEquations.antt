-- The equations of an overlap and of both guards: where their terms stand, and that they are of one sort.
use Rattle.std.specs.List.{zip}
use Rattle.std.specs.Prelude.{◌≡◌, ℕ, zero, suc, ◌+◌, ◌-◌, ◌<◌, ◌≤◌, true, false, ⊤, ◌&&◌, cond, nat_le, List, [], ◌∷◌}
use Rattle.std.specs.Prelude.{◌++◌, map, Some, slice_get, get_or}
use mathlib.Core.Bool.{true≢false}
use Rattle.std.proofs.Common.{refl, sym, ap, subst, ◌∙◌, inl, inr, arith}
use Rattle.std.proofs.lemmas.Bool.{leb-true, le-leb, and_parts}
use Rattle.std.proofs.lemmas.Option.{get_or_from_slice_get}
use Rattle.chr_base.specs.declared.term.Term.{Term}
use Rattle.chr_base.specs.declared.term.Term.TheVariants.{Variable, Constant}
use Rattle.chr_base.specs.declared.term.Cmp.{Cmp}
use Rattle.chr_base.specs.declared.term.Cmp.TheVariants.{Less, AtMost, Greater, AtLeast, Equal, NotEqual}
use Rattle.chr_base.specs.declared.term.Comparison.{Comparison}
use Rattle.chr_base.specs.declared.term.Pattern.{Pattern}
use Rattle.chr_base.specs.declared.rule.Rule.{Rule}
use Rattle.chr_base.specs.RuleTests.{terms_of, is_bound_in}
use Rattle.chr_base.specs.Rules.{Valuation, term_value, heads_of, no_pattern}
use Rattle.chr_base.specs.Values.{is_value}
use Rattle.chr_base.proofs.Instances.{guard_known}
use Rattle.chr_types.specs.OrderTypes.{In}
use Rattle.chr_types.proofs.Members.{in_first, in_second, in_either}
use Rattle.chr_confluence.specs.Constants.{guard_terms}
use Rattle.chr_confluence.specs.Unifiers.{Unifies}
use Rattle.chr_confluence.specs.Overlaps.{SameSymbols, IsMatching, variables_of, renamed_apart, equations, equations_of}
use Rattle.chr_confluence.proofs.Numbered.{head_variable, occurs_in}
use Rattle.chr_confluence.proofs.ConstantLaws.{constants_fit}
use Rattle.chr_confluence.proofs.Frees.{in_map}
use Rattle.chr_confluence.specs.Sorts.{Sorts, terms_from, sorted_terms, sort_of, FitComparison, FitRule, free}
use Rattle.chr_confluence.specs.SortedCases.{is_equation, guard_equations, equation_apart, all_equations, joint_sort}
use Rattle.chr_confluence.proofs.SortPlaces.{term_in}
use Rattle.chr_confluence.proofs.SortMoves.{all_in, head_stands}

-- ---- equations by their members

pub unifies_from : (v : Valuation) (es : List (Term × Term))
    → ((e : Term × Term) → In e es → term_value v e.0 ≡ term_value v e.1) → Unifies v es
unifies_from v [] h = tt
unifies_from v (e ∷ es) h = (h e (inl refl), unifies_from v es (λ f i. h f (inr i)))

pub unifies_at : (v : Valuation) (es : List (Term × Term)) → Unifies v es → (e : Term × Term) → In e es
    → term_value v e.0 ≡ term_value v e.1
unifies_at v [] h e i = absurd i
unifies_at v (f ∷ es) h e (inl q) = subst (λ (z : Term × Term). term_value v z.0 ≡ term_value v z.1) (sym q) h.0
unifies_at v (f ∷ es) h e (inr i) = unifies_at v es h.1 e i

-- ---- where the sides of the matching's equations stand

-- both sides stand at one sort, the second renamed apart
pub record Sides (k j : ℕ) (ts us : List (ℕ × Term)) (e : Term × Term) : Type 0 where
  pub right : Term
  pub stands1 : In (j, e.0) ts
  pub stands2 : In (j, right) us
  pub apart : e.1 ≡ renamed_apart k right

zip_sides : (sort : ℕ → ℕ) (k n : ℕ) (ts us : List Term) (e : Term × Term) → In e (zip ts (map (renamed_apart k) us))
    → (j : ℕ) × Sides k j (terms_from sort n ts) (terms_from sort n us) e
zip_sides sort k n [] us e i = absurd i
zip_sides sort k n (t ∷ ts) [] e i = absurd i
zip_sides sort k n (t ∷ ts) (u ∷ us) e (inl q) = (
  sort n,
  record {
    right = u;
    stands1 = inl (λ i. (sort n, (q i).0));
    stands2 = inl refl;
    apart =
        ap (λ (p : Term × Term). p.1) q;
  },
)
zip_sides sort k n (t ∷ ts) (u ∷ us) e (inr i) = let w = zip_sides sort k (suc n) ts us e i in
    (w.0, record { right = w.1.right; stands1 = inr w.1.stands1; stands2 = inr w.1.stands2; apart = w.1.apart })

pattern_terms : (o : Sorts) (qs : List Pattern) (e : ℕ) (q : Pattern) → slice_get qs e ≡ Some q → (p : ℕ × Term)
    → In p (terms_from (o.sort q.symbol.0) 0 q.args.items) → In p (sorted_terms o qs)
pattern_terms o [] e q h p i = absurd cc
pattern_terms o (x ∷ qs) zero q h p i = in_first p (terms_from (o.sort x.symbol.0) 0 x.args.items) (sorted_terms o qs)
    (subst (λ y. In p (terms_from (o.sort y.symbol.0) 0 y.args.items)) (sym (same x q h)) i)
  where
    same : (x q : Pattern) → Some x ≡ Some q → x ≡ q
    same x q h = cc
pattern_terms o (x ∷ qs) (suc e) q h p i = in_second p (terms_from (o.sort x.symbol.0) 0 x.args.items)
    (sorted_terms o qs) (pattern_terms o qs e q h p i)

equation_sides : (o : Sorts) (k : ℕ) (qs : List Pattern) (m : List ℕ) (ps : List Pattern) → SameSymbols qs m ps
    → (e : Term × Term) → In e (equations k qs m ps) → (j : ℕ) × Sides k j (sorted_terms o ps) (sorted_terms o qs) e
equation_sides o k qs [] ps s e i = absurd i
equation_sides o k qs (n ∷ m) [] s e i = absurd s
equation_sides o k qs (zero ∷ m) (p ∷ ps) s e i = let w = equation_sides o k qs m ps s e i in (
  w.0,
  record {
    right = w.1.right;
    stands1 = in_second (w.0, e.0) (terms_from (o.sort p.symbol.0) 0 p.args.items)
        (sorted_terms o ps) w.1.stands1;
    stands2 = w.1.stands2;
    apart = w.1.apart;
  },
)
equation_sides o k qs (suc n ∷ m) (p ∷ ps) s e i =
    elim (in_either e (zip p.args.items (map (renamed_apart k) (get_or qs n no_pattern).args.items))
    (equations k qs m ps) i) as (λ _. (j : ℕ) × Sides k j (sorted_terms o (p ∷ ps)) (sorted_terms o qs) e) [
      | inl q ↦ (let f = s.0 in
          let at : get_or qs n no_pattern ≡ f.0 = get_or_from_slice_get qs n f.0 no_pattern f.1 in
          let w = zip_sides (o.sort p.symbol.0) k 0 p.args.items f.0.args.items e
          (subst (λ x. In e (zip p.args.items (map (renamed_apart k) x.args.items))) at q) in (
            w.0,
            record {
              right = w.1.right;
              stands1 = in_first (w.0, e.0) (terms_from (o.sort p.symbol.0) 0 p.args.items)
                  (sorted_terms o ps) w.1.stands1;
              stands2 = pattern_terms o qs n f.0 f.1 (w.0, w.1.right)
                  (subst (λ y. In (w.0, w.1.right) (terms_from (o.sort y) 0 f.0.args.items)) f.2 w.1.stands2);
              apart = w.1.apart;
            },
          ))
      | inr q ↦ (let w = equation_sides o k qs m ps s.1 e q in (
        w.0,
        record {
          right = w.1.right;
          stands1 = in_second (w.0, e.0)
              (terms_from (o.sort p.symbol.0) 0 p.args.items) (sorted_terms o ps) w.1.stands1;
          stands2 = w.1.stands2;
          apart = w.1.apart;
        },
      ))
    ]

-- ---- the equations of a guard

pub record IsGuardEquation (cs : List Comparison) (e : Term × Term) : Type 0 where
  pub comparison : Comparison
  pub stands : In comparison cs
  pub sign : comparison.cmp ≡ Equal
  pub sides : e ≡ (comparison.left, comparison.right)

equation_is : (c : Cmp) → is_equation c ≡ true → c ≡ Equal
equation_is Equal h = refl
equation_is NotEqual h = absurd (true≢false (sym h))
equation_is Less h = absurd (true≢false (sym h))
equation_is AtMost h = absurd (true≢false (sym h))
equation_is Greater h = absurd (true≢false (sym h))
equation_is AtLeast h = absurd (true≢false (sym h))

later_equation : (c : Comparison) (cs : List Comparison) (e : Term × Term) → IsGuardEquation cs e
    → IsGuardEquation (c ∷ cs) e
later_equation c cs e w = record { comparison = w.comparison; stands = inr w.stands; sign = w.sign; sides = w.sides }

pub guard_equation : (cs : List Comparison) (e : Term × Term) → In e (guard_equations cs) → IsGuardEquation cs e
guard_equation [] e i = absurd i
guard_equation (c ∷ cs) e i = elim (is_equation c.cmp) as (λ b. is_equation c.cmp ≡ b
    → In e (cond b ((c.left, c.right) ∷ guard_equations cs) (guard_equations cs)) → IsGuardEquation (c ∷ cs) e) [
      | true ↦ λ t i. elim i as (λ _. IsGuardEquation (c ∷ cs) e) [
        | inl q ↦ record { comparison = c; stands = inl refl; sign = equation_is c.cmp t; sides = q }
        | inr j ↦ later_equation c cs e (guard_equation cs e j)
      ]
      | false ↦ λ t i. later_equation c cs e (guard_equation cs e i)
    ] refl i

pub has_equation : (cs : List Comparison) (c : Comparison) → In c cs → c.cmp ≡ Equal
    → In (c.left, c.right) (guard_equations cs)
has_equation [] c i s = absurd i
has_equation (d ∷ cs) c (inl q) s = let t : is_equation d.cmp ≡ true =
    ap is_equation (ap (λ (x : Comparison). x.cmp) (sym q) ∙ s) in
    subst (λ b. In (c.left, c.right) (cond b ((d.left, d.right) ∷ guard_equations cs) (guard_equations cs))) (sym t)
    (inl (λ i. ((q i).left, (q i).right)))
has_equation (d ∷ cs) c (inr i) s = elim (is_equation d.cmp) as (λ b. In (c.left, c.right)
    (cond b ((d.left, d.right) ∷ guard_equations cs) (guard_equations cs)))
    [ true ↦ inr (has_equation cs c i s) | false ↦ has_equation cs c i s ]

pub in_mapped : {A B : Type 0} (f : A → B) (x : A) (xs : List A) → In x xs → In (f x) (map f xs)
in_mapped f x [] i = absurd i
in_mapped f x (y ∷ xs) (inl e) = inl (ap f e)
in_mapped f x (y ∷ xs) (inr i) = inr (in_mapped f x xs i)

-- ---- all equations of two rules

-- what holds of the matching's equations and of those of both guards holds of all
module _ (r1 r2 : Rule) (m : List ℕ) (P : Term × Term → Type 0) where
  pub by_parts : ((e : Term × Term) → In e (equations_of r1 r2 m) → P e)
      → ((e : Term × Term) → In e (guard_equations r1.guard.items) → P e)
      → ((e : Term × Term) → In e (guard_equations r2.guard.items) → P (equation_apart (variables_of r1) e))
      → (e : Term × Term) → In e (all_equations r1 r2 m) → P e
  by_parts one two three e i = elim (in_either e (equations_of r1 r2 m ++ guard_equations r1.guard.items)
      (map (equation_apart (variables_of r1)) (guard_equations r2.guard.items)) i) as (λ _. P e) [
        | inl j ↦ elim (in_either e (equations_of r1 r2 m) (guard_equations r1.guard.items) j) as (λ _. P e)
            [ inl k ↦ one e k | inr k ↦ two e k ]
        | inr j ↦ (let w = in_map (equation_apart (variables_of r1)) e (guard_equations r2.guard.items) j in
            subst P (sym w.2) (three w.0 w.1))
      ]

-- both terms of a comparison are bound in the heads
pub guard_bound : (r : Rule) (c : Comparison) → In c r.guard.items → (is_bound_in (heads_of r) c.left ≡ true)
    × (is_bound_in (heads_of r) c.right ≡ true)
guard_bound r c i =
    let b = all_in (λ (k : Comparison). is_bound_in (heads_of r) k.left && is_bound_in (heads_of r) k.right)
    r.guard.items (guard_known r) c i in
    ((and_parts _ _ b).0, (and_parts (is_bound_in (heads_of r) c.left) _ b).1)

-- ---- a variable of the rules, or a 64-bit constant

abbrev pub Ranged : ℕ → Term → Type 0
Ranged n (Variable x) = (0 < x) × (x ≤ n)
Ranged n (Constant c) = is_value c ≡ true

abbrev pub BothRanged : ℕ → Term × Term → Type 0
BothRanged n e = Ranged n e.0 × Ranged n e.1

ranged_on : (k n : ℕ) (t : Term) → k ≤ n → Ranged k t → Ranged n t
ranged_on k n (Variable x) l h = let u = h.1 in (h.0, omega (arith, l, u))
ranged_on k n (Constant c) l h = h

ranged_apart : (k n : ℕ) (t : Term) → Ranged n t → Ranged (k + n) (renamed_apart k t)
ranged_apart k n (Variable x) h = let l = h.0 in let u = h.1 in (omega (arith, l), omega (arith, u))
ranged_apart k n (Constant c) h = h

module _ (r : Rule) where
  pub head_ranged : (t : Term) → In t (terms_of (heads_of r)) → Ranged (variables_of r) t
  head_ranged (Variable x) i = head_variable r x i
  head_ranged (Constant c) i = constants_fit (r ∷ []) c (
    0,
    r,
    refl,
    in_first (Constant c) (terms_of (heads_of r) ++ guard_terms r.guard.items) (terms_of r.body.items)
        (in_first (Constant c) (terms_of (heads_of r)) (guard_terms r.guard.items) i),
  )

  guard_terms_in : (cs : List Comparison) (c : Comparison) → In c cs → In c.left (guard_terms cs)
      × In c.right (guard_terms cs)
  guard_terms_in [] c i = absurd i
  guard_terms_in (d ∷ cs) c (inl q) = (
    inl (ap (λ (x : Comparison). x.left) q),
    inr (inl (ap (λ (x : Comparison). x.right) q)),
  )
  guard_terms_in (d ∷ cs) c (inr i) = let w = guard_terms_in cs c i in (inr (inr w.0), inr (inr w.1))

  guard_ranged : (t : Term) → In t (guard_terms r.guard.items) → is_bound_in (heads_of r) t ≡ true
      → Ranged (variables_of r) t
  guard_ranged (Variable x) i b = head_variable r x (occurs_in x (heads_of r) b)
  guard_ranged (Constant c) i b = constants_fit (r ∷ []) c (
    0,
    r,
    refl,
    in_first (Constant c) (terms_of (heads_of r) ++ guard_terms r.guard.items) (terms_of r.body.items)
        (in_second (Constant c) (terms_of (heads_of r)) (guard_terms r.guard.items) i),
  )

  guard_equation_ranged : (e : Term × Term) → In e (guard_equations r.guard.items) → BothRanged (variables_of r) e
  guard_equation_ranged e i =
      let w = guard_equation r.guard.items e i in
      let b = guard_bound r w.comparison w.stands in
      let t = guard_terms_in r.guard.items w.comparison w.stands in
      subst (BothRanged (variables_of r)) (sym w.sides)
      (guard_ranged w.comparison.left t.0 b.0, guard_ranged w.comparison.right t.1 b.1)

-- sorts that say nothing
no_sorts : Sorts
no_sorts = record { sort = λ _ _. 0; kind = λ _. free; constants = λ _. [] }

pub all_ranged : (r1 r2 : Rule) (m : List ℕ) → IsMatching r1 r2 m → (e : Term × Term) → In e (all_equations r1 r2 m)
    → BothRanged (variables_of r1 + variables_of r2) e
all_ranged r1 r2 m is = by_parts r1 r2 m (BothRanged (variables_of r1 + variables_of r2))
    (λ e i. (let w = equation_sides no_sorts (variables_of r1) (heads_of r2) m (heads_of r1) is.symbols e i in (
      ranged_on (variables_of r1) (variables_of r1 + variables_of r2) e.0 (omega arith)
          (head_ranged r1 e.0 (term_in no_sorts (heads_of r1) w.0 e.0 w.1.stands1)),
      subst (Ranged (variables_of r1 + variables_of r2)) (sym w.1.apart)
          (ranged_apart (variables_of r1) (variables_of r2) w.1.right
          (head_ranged r2 w.1.right (term_in no_sorts (heads_of r2) w.0 w.1.right w.1.stands2))),
    )))
    (λ e i. (let w = guard_equation_ranged r1 e i in (
      ranged_on (variables_of r1) (variables_of r1 + variables_of r2)
          e.0 (omega arith) w.0,
      ranged_on (variables_of r1) (variables_of r1 + variables_of r2) e.1 (omega arith) w.1,
    )))
    (λ e i. (let w = guard_equation_ranged r2 e i in (
      ranged_apart (variables_of r1) (variables_of r2) e.0 w.0,
      ranged_apart (variables_of r1) (variables_of r2) e.1 w.1,
    )))

-- ---- both sides are of one sort

-- the term is of this sort
abbrev HasSort : Sorts → (ℕ → ℕ) → ℕ → Term → Type 0
HasSort o at j (Variable x) = j ≡ at x
HasSort o at j (Constant c) = In c (o.constants j)

-- two variables are of one sort, and a constant is one of the variable's sort
abbrev pub Alike : Sorts → (ℕ → ℕ) → Term → Term → Type 0
Alike o at (Variable x) (Variable y) = at x ≡ at y
Alike o at (Variable x) (Constant d) = In d (o.constants (at x))
Alike o at (Constant c) (Variable y) = In c (o.constants (at y))
Alike o at (Constant c) (Constant d) = ⊤

alike_at : (o : Sorts) (at : ℕ → ℕ) (j : ℕ) (t u : Term) → HasSort o at j t → HasSort o at j u → Alike o at t u
alike_at o at j (Variable x) (Variable y) h g = sym h ∙ g
alike_at o at j (Variable x) (Constant d) h g = subst (λ k. In d (o.constants k)) h g
alike_at o at j (Constant c) (Variable y) h g = subst (λ k. In c (o.constants k)) g h
alike_at o at j (Constant c) (Constant d) h g = tt

module _ (o : Sorts) (r1 r2 : Rule) where
  pub sort_left : (x : ℕ) → In (Variable x) (terms_of (heads_of r1)) → joint_sort o r1 r2 x ≡ sort_of o r1 x
  sort_left x i = ap (λ b. cond b (sort_of o r1 x) (sort_of o r2 (x - variables_of r1)))
      (le-leb x (variables_of r1) (head_variable r1 x i).1)

  pub sort_right : (x : ℕ) → In (Variable x) (terms_of (heads_of r2)) → joint_sort o r1 r2 (variables_of r1 + x)
      ≡ sort_of o r2 x
  sort_right x i =
      ap (λ b. cond b (sort_of o r1 (variables_of r1 + x)) (sort_of o r2 (variables_of r1 + x - variables_of r1)))
      (gt (variables_of r1) x (head_variable r2 x i).0) ∙ ap (sort_of o r2) (omega arith)
    where
      gt : (k x : ℕ) → 0 < x → nat_le (k + x) k ≡ false
      gt k x l = elim (nat_le (k + x) k) as (λ b. nat_le (k + x) k ≡ b → b ≡ false)
          [ true ↦ λ e. (let q = leb-true (k + x) k e in absurd (omega (arith, q, l))) | false ↦ λ e. refl ] refl

  module _ (fit1 : FitRule o r1) (fit2 : FitRule o r2) where
    left_has : (j : ℕ) (t : Term) → In (j, t) (sorted_terms o (heads_of r1)) → HasSort o (joint_sort o r1 r2) j t
    left_has j (Variable x) i = fit1.variables j x (head_stands o r1 fit1 j (Variable x) i)
        ∙ sym (sort_left x (term_in o (heads_of r1) j (Variable x) i))
    left_has j (Constant c) i = fit1.constants j c (head_stands o r1 fit1 j (Constant c) i)

    right_has : (j : ℕ) (t : Term) → In (j, t) (sorted_terms o (heads_of r2)) → HasSort o (joint_sort o r1 r2) j
        (renamed_apart (variables_of r1) t)
    right_has j (Variable x) i = fit2.variables j x (head_stands o r2 fit2 j (Variable x) i)
        ∙ sym (sort_right x (term_in o (heads_of r2) j (Variable x) i))
    right_has j (Constant c) i = fit2.constants j c (head_stands o r2 fit2 j (Constant c) i)

    left_alike : (c : Cmp) (t u : Term) → FitComparison o (sort_of o r1) c t u → is_bound_in (heads_of r1) t ≡ true
        → is_bound_in (heads_of r1) u ≡ true → Alike o (joint_sort o r1 r2) t u
    left_alike c (Variable x) (Variable y) f a b = sort_left x (occurs_in x (heads_of r1) a) ∙ f.0
        ∙ sym (sort_left y (occurs_in y (heads_of r1) b))
    left_alike c (Variable x) (Constant d) f a b = subst (λ k. In d (o.constants k))
        (sym (sort_left x (occurs_in x (heads_of r1) a))) f.0
    left_alike c (Constant d) (Variable y) f a b = subst (λ k. In d (o.constants k))
        (sym (sort_left y (occurs_in y (heads_of r1) b))) f.0
    left_alike c (Constant d) (Constant e) f a b = tt

    right_alike : (c : Cmp) (t u : Term) → FitComparison o (sort_of o r2) c t u → is_bound_in (heads_of r2) t ≡ true
        → is_bound_in (heads_of r2) u ≡ true
        → Alike o (joint_sort o r1 r2) (renamed_apart (variables_of r1) t) (renamed_apart (variables_of r1) u)
    right_alike c (Variable x) (Variable y) f a b = sort_right x (occurs_in x (heads_of r2) a) ∙ f.0
        ∙ sym (sort_right y (occurs_in y (heads_of r2) b))
    right_alike c (Variable x) (Constant d) f a b = subst (λ k. In d (o.constants k))
        (sym (sort_right x (occurs_in x (heads_of r2) a))) f.0
    right_alike c (Constant d) (Variable y) f a b = subst (λ k. In d (o.constants k))
        (sym (sort_right y (occurs_in y (heads_of r2) b))) f.0
    right_alike c (Constant d) (Constant e) f a b = tt

    pub all_alike : (m : List ℕ) → IsMatching r1 r2 m → (e : Term × Term) → In e (all_equations r1 r2 m)
        → Alike o (joint_sort o r1 r2) e.0 e.1
    all_alike m is = by_parts r1 r2 m (λ e. Alike o (joint_sort o r1 r2) e.0 e.1)
        (λ e i. (let w = equation_sides o (variables_of r1) (heads_of r2) m (heads_of r1) is.symbols e i in
        subst (Alike o (joint_sort o r1 r2) e.0) (sym w.1.apart)
        (alike_at o (joint_sort o r1 r2) w.0 e.0 _ (left_has w.0 e.0 w.1.stands1)
        (right_has w.0 w.1.right w.1.stands2))))
        (λ e i. (let w = guard_equation r1.guard.items e i in let b = guard_bound r1 w.comparison w.stands in
        subst (λ (z : Term × Term). Alike o (joint_sort o r1 r2) z.0 z.1) (sym w.sides)
        (left_alike w.comparison.cmp w.comparison.left w.comparison.right (fit1.compared w.comparison w.stands) b.0
        b.1)))
        (λ e i. (let w = guard_equation r2.guard.items e i in let b = guard_bound r2 w.comparison w.stands in
        subst (λ (z : Term × Term). Alike o (joint_sort o r1 r2) (renamed_apart (variables_of r1) z.0)
        (renamed_apart (variables_of r1) z.1)) (sym w.sides)
        (right_alike w.comparison.cmp w.comparison.left w.comparison.right (fit2.compared w.comparison w.stands) b.0
        b.1)))
