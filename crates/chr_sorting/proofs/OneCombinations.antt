-- There is one list of all combinations.
use Rattle.std.specs.Prelude.{◌≡◌, ℕ, ℤ, pos, ◌+ℤ◌, ◌≤ℤ◌, ◌<ℤ◌, ◌⊎◌, Bool, true, false, int_lt, List, [], ◌∷◌, length}
use Rattle.std.proofs.Common.{refl, sym, ap, subst, ◌∙◌, arith, inl, inr}
use Rattle.std.proofs.lemmas.Int.{ints}
use Rattle.std.specs.Ordering.{int_cmp}
use Rattle.std.specs.declared.cmp.Ordering.TheVariants.{Less}
use Rattle.std.specs.Cmp.{int_cmp_total}
use Rattle.std.specs.Cmp.Lexicographic.{slice_cmp, lists_total}
use Rattle.chr_types.specs.OrderTypes.{In, Rises}
use Rattle.chr_types.proofs.Bases.{lt_true, lt_false}
use Rattle.chr_types.proofs.RisingLists.{same_members}
use Rattle.chr_types.proofs.OneList.{never, one_list}
use Rattle.chr_confluence.specs.Sorts.{Kind, ordered, equal, free}
use Rattle.chr_confluence.specs.SortLists.{AreBlocks, values_at, sort_count}
use Rattle.chr_sorting.specs.SortedCaseLists.{AreFirstNumbers, AreListsAt, AreCombinations}
use Rattle.chr_sorting.specs.laws.Combinations.{CombinationsAreOne}

-- ---- the first numbers

-- the first numbers from b that are none of the constants
record AreFrom (b : ℤ) (cs us : List ℤ) : Type 0 where
  rise : Rises us
  new : (z : ℤ) → In z us → (b ≤ℤ z) × (¬ In z cs)
  all : (z x : ℤ) → In z us → b ≤ℤ x → x <ℤ z → In x us ⊎ In x cs

-- the first of one list is not less than that of another
not_less : (b : ℤ) (cs us vs : List ℤ) (u v : ℤ) → AreFrom b cs (u ∷ us) → AreFrom b cs (v ∷ vs) → u <ℤ v → ⊥
not_less b cs us vs u v f g l =
    let n = f.new u (inl refl) in
    elim (g.all v u (inl refl) n.0 l) as (λ _. ⊥) [
      | inl i ↦ elim i as (λ _. ⊥) [
        | inl e ↦ absurd (omega (arith, ints, e, l))
        | inr j ↦
            (let h = g.rise.0 u j in absurd (omega (arith, ints, h, l)))
      ]
      | inr i ↦ n.1 i
    ]

rest_from : (b u : ℤ) (cs us : List ℤ) → AreFrom b cs (u ∷ us) → AreFrom (u +ℤ pos 1) cs us
rest_from b u cs us f = record {
  rise = f.rise.1;
  new = λ z i. (let l = f.rise.0 z i in (omega (arith, ints, l), (f.new z (inr i)).1));
  all = λ z x i le l. (
      let n = (f.new u (inl refl)).0 in
      elim (f.all z x (inr i) (omega (arith, ints, n, le)) l) as (λ _. In x us ⊎ In x cs) [
        | inl j ↦ elim j as (λ _. In x us ⊎ In x cs) [ inl e ↦ absurd (omega (arith, ints, e, le)) | inr k ↦ inl k ]
        | inr j ↦ inr j
      ]
      );
}

same_number : (u v : ℤ) → ¬ (u <ℤ v) → ¬ (v <ℤ u) → u ≡ v
same_number u v a b = by (int_lt u v) (int_lt v u) refl refl
  where
    by : (c d : Bool) → int_lt u v ≡ c → int_lt v u ≡ d → u ≡ v
    by true d e g = absurd (a (lt_true u v e))
    by false true e g = absurd (b (lt_true v u g))
    by false false e g = let h = lt_false u v e in let k = lt_false v u g in omega (arith, ints, h, k)

same_from : (b : ℤ) (cs us vs : List ℤ) → length us ≡ length vs → AreFrom b cs us → AreFrom b cs vs → us ≡ vs
same_from b cs [] [] l f g = refl
same_from b cs [] (v ∷ vs) l f g = absurd (omega (arith, l))
same_from b cs (u ∷ us) [] l f g = absurd (omega (arith, l))
same_from b cs (u ∷ us) (v ∷ vs) l f g =
    let a = not_less b cs us vs u v f g in
    let c = not_less b cs vs us v u g f in
    let e : u ≡ v = same_number u v a c in
    let more = same_from (u +ℤ pos 1) cs us vs (omega (arith, l)) (rest_from b u cs us f)
    (subst (λ x. AreFrom (x +ℤ pos 1) cs vs) (sym e) (rest_from b v cs vs g)) in
    λ i. e i ∷ more i

first_from : (cs us : List ℤ) → AreFirstNumbers cs us → AreFrom (pos 0) cs us
first_from cs us f = record { rise = f.rise; new = f.new; all = f.all }

same_numbers : (cs us vs : List ℤ) → length us ≡ length vs → AreFirstNumbers cs us → AreFirstNumbers cs vs → us ≡ vs
same_numbers cs us vs l f g = same_from (pos 0) cs us vs l (first_from cs us f) (first_from cs vs g)

-- ---- one sort

pub one_lists : (k : Kind) (cs : List ℤ) (n : ℕ) (ls ms : List (List ℤ)) → Rises cs → AreListsAt k cs n ls
    → AreListsAt k cs n ms → ls ≡ ms
one_lists free cs n ls ms r a b =
    let e = same_numbers cs a.0 b.0 (a.1 ∙ sym b.1) a.2 b.2 in
    a.3 ∙ ap (λ us. us ∷ []) e ∙ sym b.3
one_lists equal cs n ls ms r a b =
    let e = same_numbers cs a.0 b.0 (a.1 ∙ sym b.1) a.2 b.2 in
    same_members {A = List ℤ} (λ r t. slice_cmp int_cmp r t ≡ Less) never
    (λ r t u. (lists_total int_cmp_total).trans r t u) ls ms a.4 b.4
    (λ zs i. (let h = (a.3 zs).0 i in (b.3 zs).1 (h.0, subst (λ us. AreBlocks cs [] us zs) e h.1)))
    (λ zs i. (let h = (b.3 zs).0 i in (a.3 zs).1 (h.0, subst (λ us. AreBlocks cs [] us zs) (sym e) h.1)))
one_lists ordered cs n ls ms r a b = one_list n cs ls ms r a b

lists_alike : (k : Kind) (cs : List ℤ) (n : ℕ) (ls ms : List (List ℤ)) → Rises cs → AreListsAt k cs n ls
    → AreListsAt k cs n ms → (zs : List ℤ) → In zs ls → In zs ms
lists_alike k cs n ls ms r a b zs i = subst (In zs) (one_lists k cs n ls ms r a b) i

-- ---- all sorts

pub combinations_one : CombinationsAreOne
combinations_one s ks rs ts rises a b =
    same_members {A = List ℤ} (λ r t. slice_cmp int_cmp r t ≡ Less) never
    (λ r t u. (lists_total int_cmp_total).trans r t u) rs ts a.order b.order (over rs ts a b) (over ts rs b a)
  where
    over : (xs ys : List (List ℤ)) → AreCombinations s ks xs → AreCombinations s ks ys → (r : List ℤ) → In r xs
        → In r ys
    over xs ys x y r i =
        let h = (x.combined r).0 i in
        (y.combined r).1 (
          h.0,
          λ k j. lists_alike (s.kind k) (s.constants k) (sort_count k ks) (x.lists k) (y.lists k)
              (rises k) (x.each k j) (y.each k j) (values_at k ks r) (h.1 k j),
        )
