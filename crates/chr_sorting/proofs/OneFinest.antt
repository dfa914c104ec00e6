-- Any two finest sorts are the same at all positions, and give an overlap the same sorted cases.
use Rattle.std.specs.Prelude.{◌≡◌, ℕ, suc, ◌+◌, ◌-◌, ◌<◌, ◌≤◌, ◌<ℤ◌, ◌⊎◌, ℤ, Bool, true, false, cond, nat_le, List, []}
use Rattle.std.specs.Prelude.{◌∷◌, ◌++◌, map, length}
use Rattle.std.proofs.Common.{refl, sym, ap, subst, ◌∙◌, arith, inl, inr}
use Rattle.std.proofs.lemmas.Int.{ints}
use Rattle.std.proofs.lemmas.Bool.{leb-true, leb-false}
use mathlib.Core.Bool.{true≢false}
use Rattle.chr_base.specs.declared.limits.TheConstants.{MAX_ARITY}
use Rattle.chr_base.specs.declared.term.Term.{Term}
use Rattle.chr_base.specs.declared.term.Term.TheVariants.{Variable}
use Rattle.chr_base.specs.declared.term.Cmp.{Cmp}
use Rattle.chr_base.specs.declared.term.Cmp.TheVariants.{Less, NotEqual}
use Rattle.chr_base.specs.declared.term.Pattern.{Pattern}
use Rattle.chr_base.specs.declared.rule.Rule.{Rule}
use Rattle.chr_base.specs.Rules.{heads_of}
use Rattle.chr_types.specs.OrderTypes.{In}
use Rattle.chr_types.proofs.Members.{in_either}
use Rattle.chr_types.proofs.RisingLists.{same_members}
use Rattle.chr_confluence.specs.Unifiers.{Substitution, HasNoUnifier}
use Rattle.chr_confluence.specs.Overlaps.{variables_of}
use Rattle.chr_confluence.specs.Representatives.{free_variables}
use Rattle.chr_confluence.proofs.Frees.{free_is, in_map}
use Rattle.chr_confluence.proofs.Numbered.{variable_stands}
use Rattle.chr_confluence.specs.Sorts.{Sorts, Kind, ordered, equal, free, tells, terms_from, sorted_terms, first_sort}
use Rattle.chr_confluence.specs.Sorts.{sort_of}
use Rattle.chr_confluence.specs.SortLists.{sort_count}
use Rattle.chr_confluence.specs.SortedCases.{all_equations, joint_sort, class_sorts}
use Rattle.chr_confluence.proofs.SortPlaces.{stands_at_sort}
use Rattle.chr_confluence.proofs.SortEquations.{sort_left, sort_right}
use Rattle.chr_overlaps.specs.declared.overlap.Overlap.{Overlap}
use Rattle.chr_overlaps.specs.declared.cases.Case.{Case}
use Rattle.chr_sorting.specs.FinestSorts.{AreShort, AreFinest}
use Rattle.chr_sorting.specs.SortedCaseLists.{AreListsAt, AreCombinations, AreSortedListed, AreSortedCases}
use Rattle.chr_sorting.specs.SortedCaseLists.{HasTooManyCombinations}
use Rattle.chr_sorting.specs.laws.FinestSorts.{AreSameAt, FinestAreOne, FinestHaveOneCases, FinestHaveAsMany}

-- kinds that tell the same signs are equal
one_kind : (k l : Kind) → ((c : Cmp) → tells k c ≡ true → tells l c ≡ true)
    → ((c : Cmp) → tells l c ≡ true → tells k c ≡ true) → k ≡ l
one_kind ordered ordered f g = refl
one_kind equal equal f g = refl
one_kind free free f g = refl
one_kind ordered equal f g = absurd (true≢false (sym (f Less refl)))
one_kind ordered free f g = absurd (true≢false (sym (f Less refl)))
one_kind equal ordered f g = absurd (true≢false (sym (g Less refl)))
one_kind equal free f g = absurd (true≢false (sym (f NotEqual refl)))
one_kind free ordered f g = absurd (true≢false (sym (g Less refl)))
one_kind free equal f g = absurd (true≢false (sym (g NotEqual refl)))

-- where a term of short atoms stands, there is a position
position_at : (o : Sorts) (ps : List Pattern) → AreShort ps → (j : ℕ) (t : Term) → In (j, t) (sorted_terms o ps)
    → (a : ℕ) × (k : ℕ) × (k < MAX_ARITY) × (j ≡ o.sort a k)
position_at o [] short j t i = absurd i
position_at o (p ∷ ps) short j t i = elim (in_either (j, t) (terms_from (o.sort p.symbol.0) 0 p.args.items)
    (sorted_terms o ps) i) as (λ _. (a : ℕ) × (k : ℕ) × (k < MAX_ARITY) × (j ≡ o.sort a k)) [
      | inl h ↦ (let l = short p (inl refl) in argument 0 p.args.items (omega (arith, l)) h)
      | inr h ↦ position_at o ps (λ q n. short q (inr n)) j t h
    ]
  where
    argument : (k : ℕ) (ts : List Term) → k + length ts ≤ MAX_ARITY → In (j, t) (terms_from (o.sort p.symbol.0) k ts)
        → (a : ℕ) × (l : ℕ) × (l < MAX_ARITY) × (j ≡ o.sort a l)
    argument k [] l h = absurd h
    argument k (u ∷ ts) l (inl e) = (p.symbol.0, k, omega (arith, l), ap (λ (q : ℕ × Term). q.0) e)
    argument k (u ∷ ts) l (inr h) = argument (suc k) ts (omega (arith, l)) h

module _ (rules : List Rule) (s t : Sorts) (a : AreFinest rules s) (b : AreFinest rules t) where
  to : (x k y l : ℕ) → k < MAX_ARITY → l < MAX_ARITY → s.sort x k ≡ s.sort y l → t.sort x k ≡ t.sort y l
  to = (a.finest t b.fit).sorts

  from : (x k y l : ℕ) → k < MAX_ARITY → l < MAX_ARITY → t.sort x k ≡ t.sort y l → s.sort x k ≡ s.sort y l
  from = (b.finest s a.fit).sorts

  one_sort : (x k : ℕ) → k < MAX_ARITY → s.sort x k ≡ t.sort x k
  one_sort x k l =
      let w = a.named.stands x k l in
      let v = b.named.stands x k l in
      let ws = to w.0 w.1 x k w.2 l w.3 in
      let vs = from v.0 v.1 x k v.2 l v.3 in
      let n = b.named.least x k w.0 w.1 l w.2 (sym ws) in
      let m = a.named.least x k v.0 v.1 l v.2 (sym vs) in
      let e = w.4 in
      let g = v.4 in
      omega (arith, n, m, e, g)

  pub same_at : (x k : ℕ) → k < MAX_ARITY → AreSameAt s t x k
  same_at x k l =
      let e = one_sort x k l in
      record {
        sort = e;
        kind = one_kind (s.kind (s.sort x k)) (t.kind (s.sort x k))
            (λ c h. subst (λ n. tells (t.kind n) c ≡ true) (sym e) ((a.finest t b.fit).kinds x k c l h))
            (λ c h. (b.finest s a.fit).kinds x k c l (subst (λ n. tells (t.kind n) c ≡ true) e h));
        constants = same_members {A = ℤ} ◌<ℤ◌ (λ c h. omega (arith, ints, h)) (λ c d n h g. omega (arith, ints, h, g))
            (s.constants (s.sort x k)) (t.constants (s.sort x k))
            (a.rise (s.sort x k)) (b.rise (s.sort x k))
            (λ c i. subst (λ n. In c (t.constants n)) (sym e) ((a.finest t b.fit).constants x k c l i))
            (λ c i. (b.finest s a.fit).constants x k c l (subst (λ n. In c (t.constants n)) e i));
      }

  -- ---- sorts of classes

  arguments_same : (x k : ℕ) (ts : List Term) → k + length ts ≤ MAX_ARITY → terms_from (s.sort x) k ts
      ≡ terms_from (t.sort x) k ts
  arguments_same x k [] l = refl
  arguments_same x k (u ∷ ts) l =
      let here = one_sort x k (omega (arith, l)) in
      let more = arguments_same x (suc k) ts (omega (arith, l)) in
      λ i. (here i, u) ∷ more i

  terms_same : (ps : List Pattern) → AreShort ps → sorted_terms s ps ≡ sorted_terms t ps
  terms_same [] short = refl
  terms_same (p ∷ ps) short =
      let l = short p (inl refl) in
      let here = arguments_same p.symbol.0 0 p.args.items (omega (arith, l)) in
      let more = terms_same ps (λ q i. short q (inr i)) in
      λ i. here i ++ more i

  module _ (r1 r2 : Rule) (short1 : AreShort (heads_of r1)) (short2 : AreShort (heads_of r2)) where
    joint_same : (x : ℕ) → joint_sort s r1 r2 x ≡ joint_sort t r1 r2 x
    joint_same x =
        let e1 = terms_same (heads_of r1) short1 in
        let e2 = terms_same (heads_of r2) short2 in
        λ i. cond (nat_le x (variables_of r1)) (first_sort (e1 i) x) (first_sort (e2 i) (x - variables_of r1))

    pub classes_same : (σ : Substitution) → class_sorts s σ r1 r2 ≡ class_sorts t σ r1 r2
    classes_same σ = λ i. map (λ x. joint_same x i) (free_variables σ r1 r2)

    joint_position : (x : ℕ) → 0 < x → x ≤ variables_of r1 + variables_of r2 → (y : ℕ) × (k : ℕ) × (k < MAX_ARITY)
        × (joint_sort s r1 r2 x ≡ s.sort y k)
    joint_position x p l = by (nat_le x (variables_of r1)) refl
      where
        by : (c : Bool) → nat_le x (variables_of r1) ≡ c → (y : ℕ) × (k : ℕ) × (k < MAX_ARITY)
            × (joint_sort s r1 r2 x ≡ s.sort y k)
        by true e =
            let i = variable_stands r1 x p (leb-true x (variables_of r1) e) in
            let w = position_at s (heads_of r1) short1 (sort_of s r1 x) (Variable x) (stands_at_sort s r1 x i) in
            (w.0, w.1, w.2, sort_left s r1 r2 x i ∙ w.3)
        by false e =
            let g = leb-false x (variables_of r1) e in
            let z = x - variables_of r1 in
            let back : variables_of r1 + z ≡ x = omega (arith, g) in
            let i = variable_stands r2 z (omega (arith, g)) (omega (arith, g, l)) in
            let w = position_at s (heads_of r2) short2 (sort_of s r2 z) (Variable z) (stands_at_sort s r2 z i) in
            let same : joint_sort s r1 r2 x ≡ joint_sort s r1 r2 (variables_of r1 + z) =
            ap (joint_sort s r1 r2) (sym back) in
            let right : joint_sort s r1 r2 (variables_of r1 + z) ≡ s.sort w.0 w.1 = sort_right s r1 r2 z i ∙ w.3 in
            (w.0, w.1, w.2, same ∙ right)

    -- a class's sort is of one kind by both, with the same constants
    class_same : (σ : Substitution) (k : ℕ) → In k (class_sorts s σ r1 r2) → (s.kind k ≡ t.kind k)
        × (s.constants k ≡ t.constants k)
    class_same σ k i =
        let w = in_map (joint_sort s r1 r2) k (free_variables σ r1 r2) i in
        let f = free_is σ r1 r2 w.0 w.1 in
        let p = joint_position w.0 f.0 f.1 in
        let h = same_at p.0 p.1 p.2 in
        let e : s.sort p.0 p.1 ≡ k = sym (w.2 ∙ p.3) in
        (subst (λ n. s.kind n ≡ t.kind n) e h.kind, subst (λ n. s.constants n ≡ t.constants n) e h.constants)

    pub combinations_same : (σ : Substitution) (rs : List (List ℤ)) → AreCombinations s (class_sorts s σ r1 r2) rs
        → AreCombinations t (class_sorts t σ r1 r2) rs
    combinations_same σ rs c = subst (λ ks. AreCombinations t ks rs) (classes_same σ) (record {
      lists = c.lists;
      each = λ k i. (let h = class_same σ k i in
          subst (λ (q : Kind × List ℤ). AreListsAt q.0 q.1 (sort_count k (class_sorts s σ r1 r2)) (c.lists k))
          (λ j. (h.0 j, h.1 j)) (c.each k i));
      combined = c.combined;
      order = c.order;
    })

  pub one_cases : (o : Overlap) (cs : List Case) → AreSortedCases s rules o cs → AreSortedCases t rules o cs
  one_cases o cs c = record {
    rule1 = c.rule1;
    rule2 = c.rule2;
    first = c.first;
    second = c.second;
    listed = elim c.listed as (λ _. (HasNoUnifier (all_equations c.rule1 c.rule2 o.matching.items) × (cs ≡ []))
        ⊎ AreSortedListed t o c.rule1 c.rule2 cs) [
          | inl n ↦ inl n
          | inr l ↦ inr (record {
            classes = l.classes;
            combinations = l.combinations;
            solves = l.solves;
            all = combinations_same c.rule1 c.rule2 (a.short (o.first - 1) c.rule1 c.first)
                (a.short (o.second - 1) c.rule2 c.second) l.classes l.combinations l.all;
            within = l.within;
            cases_are = l.cases_are;
          })
        ];
  }

  pub as_many : (o : Overlap) (n : ℕ) → HasTooManyCombinations s rules o n → HasTooManyCombinations t rules o n
  as_many o n c =
      let short1 = a.short (o.first - 1) c.rule1 c.first in
      let short2 = a.short (o.second - 1) c.rule2 c.second in
      record {
        rule1 = c.rule1;
        rule2 = c.rule2;
        first = c.first;
        second = c.second;
        classes = c.classes;
        solves = c.solves;
        number = c.number ∙ ap length (classes_same c.rule1 c.rule2 short1 short2 c.classes);
        many = (c.many.0, combinations_same c.rule1 c.rule2 short1 short2 c.classes c.many.0 c.many.1, c.many.2);
      }

pub finest_are_one : FinestAreOne
finest_are_one rules s t a b = same_at rules s t a b

pub finest_have_one_cases : FinestHaveOneCases
finest_have_one_cases rules s t a b = one_cases rules s t a b

pub finest_have_as_many : FinestHaveAsMany
finest_have_as_many rules s t a b = as_many rules s t a b
