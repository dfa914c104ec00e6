-- All combinations of one list at each sort cover.
use Rattle.std.specs.Prelude.{◌≡◌, ℕ, ℤ, suc, Bool, true, false, cond, nat_eq, List, [], ◌∷◌, length}
use Rattle.std.proofs.Common.{refl, sym, ap, subst, ◌∙◌, arith, inl, inr}
use Rattle.std.proofs.lemmas.Bool.{eqb-true, eq-eqb}
use Rattle.std.proofs.lemmas.Int.{ints}
use Rattle.std.proofs.lemmas.List.{nil_from_length}
use Rattle.chr_types.specs.OrderTypes.{In, Rises, RisesBy, AreValues, IsValue}
use Rattle.chr_confluence.specs.Sorts.{Kind, ordered, equal, free}
use Rattle.chr_confluence.specs.SortLists.{AreBlocks, AreNew, CoverAt, StandsAt, values_at, sort_count}
use Rattle.chr_confluence.specs.laws.SortedLists.{NewValuesCover, BlocksCover, OrderTypesCover, CombinationsCover}
use Rattle.chr_sorting.specs.SortedCaseLists.{AreFirstNumbers, AreListsAt}
use Rattle.chr_sorting.specs.laws.Combinations.{CombinationsAreValues, CombinationsStandForAll}

-- ---- whether a sort is one of these

abbrev pub is_one : ℕ → List ℕ → Bool
is_one k [] = false
is_one k (j ∷ ks) = cond (nat_eq j k) true (is_one k ks)

pub one_in : (k : ℕ) (ks : List ℕ) → is_one k ks ≡ true → In k ks
one_in k [] h = absurd cc
one_in k (j ∷ ks) h = elim (nat_eq j k) as (λ b. nat_eq j k ≡ b → cond b true (is_one k ks) ≡ true → In k (j ∷ ks)) [
  | true ↦ λ e _. inl (sym (eqb-true j k e))
  | false ↦ λ e g. inr (one_in k ks g)
] refl h

pub in_one : (k : ℕ) (ks : List ℕ) → In k ks → is_one k ks ≡ true
in_one k [] i = absurd i
in_one k (j ∷ ks) (inl e) = ap (λ b. cond b true (is_one k ks)) (eq-eqb j k (sym e))
in_one k (j ∷ ks) (inr i) = elim (nat_eq j k) as (λ b. cond b true (is_one k ks) ≡ true)
    [ true ↦ refl | false ↦ in_one k ks i ]

pub none_counted : (k : ℕ) (ks : List ℕ) → is_one k ks ≡ false → sort_count k ks ≡ 0
none_counted k [] h = refl
none_counted k (j ∷ ks) h = elim (nat_eq j k) as (λ b. cond b true (is_one k ks) ≡ false
    → cond b (suc (sort_count k ks)) (sort_count k ks) ≡ 0) [
      | true ↦ λ g. absurd cc
      | false ↦ λ g. none_counted k ks g
    ] h

-- ---- one sort

are_different : (us : List ℤ) → Rises us → RisesBy (λ x y. ¬ (x ≡ y)) us
are_different [] r = tt
are_different (u ∷ us) r = (λ y i e. (let l = r.0 y i in absurd (omega (arith, ints, l, e))), are_different us r.1)

are_new : (cs us : List ℤ) → AreFirstNumbers cs us → AreNew cs us
are_new cs us f = (are_different us f.rise, λ z i. (f.new z i).1)

module _ (new_values : NewValuesCover) (blocks : BlocksCover) (types : OrderTypesCover) where
  lists_cover : (k : Kind) (cs : List ℤ) (n : ℕ) (ls : List (List ℤ)) → AreListsAt k cs n ls → CoverAt k cs n ls
  lists_cover free cs n ls h = subst (CoverAt free cs n) (sym h.3)
      (subst (λ m. CoverAt free cs m (h.0 ∷ [])) h.1 (new_values cs h.0 (are_new cs h.0 h.2)))
  lists_cover equal cs n ls h = let l = h.1 in blocks cs h.0 n ls (are_new cs h.0 h.2) (omega (arith, l))
      (λ zs e b. (h.3 zs).1 (e, b))
  lists_cover ordered cs n ls h = types cs n ls h

-- the list of no values stands for itself
none_stand : (k : Kind) (cs : List ℤ) → StandsAt k cs [] []
none_stand free cs = record { count = refl; classes = λ p q i. absurd i; against = λ p c i. absurd i }
none_stand equal cs = record { count = refl; classes = λ p q i. absurd i; against = λ p c i. absurd i }
none_stand ordered cs = record { count = refl; classes = λ p q i. absurd i; against = λ p c i. absurd i }

none_cover : (k : Kind) (cs : List ℤ) → CoverAt k cs 0 ([] ∷ [])
none_cover k cs vs e values = ([], inl refl, subst (StandsAt k cs []) (sym (nil_from_length vs e)) (none_stand k cs))

-- ---- all sorts

-- the lists at a sort, or that of no values
abbrev pub chosen : Bool → List (List ℤ) → List (List ℤ)
chosen true ls = ls
chosen false ls = [] ∷ []

pub combinations_stand : NewValuesCover → BlocksCover → OrderTypesCover → CombinationsCover → CombinationsStandForAll
combinations_stand new_values blocks types combine s ks rs all =
    combine s ks (λ k. chosen (is_one k ks) (all.lists k)) rs each
    (λ us l i. (all.combined us).1 (l, λ k j. there us i k (in_one k ks j)))
  where
    each : (k : ℕ) → CoverAt (s.kind k) (s.constants k) (sort_count k ks) (chosen (is_one k ks) (all.lists k))
    each k = elim (is_one k ks) as (λ b. is_one k ks ≡ b → CoverAt (s.kind k) (s.constants k) (sort_count k ks)
        (chosen b (all.lists k))) [
          | true ↦ λ e. lists_cover new_values blocks types (s.kind k) (s.constants k) (sort_count k ks) (all.lists k)
              (all.each k (one_in k ks e))
          | false ↦ λ e. subst (λ n. CoverAt (s.kind k) (s.constants k) n ([] ∷ [])) (sym (none_counted k ks e))
              (none_cover (s.kind k) (s.constants k))
        ] refl

    there : (us : List ℤ) → ((k : ℕ) → In (values_at k ks us) (chosen (is_one k ks) (all.lists k))) → (k : ℕ)
        → is_one k ks ≡ true → In (values_at k ks us) (all.lists k)
    there us i k e = subst (λ b. In (values_at k ks us) (chosen b (all.lists k))) e (i k)

-- ---- values

blocks_values : (cs before ns zs : List ℤ) → AreValues cs → AreValues before → AreValues ns → AreBlocks cs before ns zs
    → AreValues zs
blocks_values cs before ns [] c b n h z i = absurd i
blocks_values cs before [] (y ∷ zs) c b n h z (inl e) =
    subst IsValue (sym e) (elim h.0 as (λ _. IsValue y) [ inl j ↦ c y j | inr j ↦ b y j ])
blocks_values cs before [] (y ∷ zs) c b n h z (inr i) = blocks_values cs before [] zs c b n h.1 z i
blocks_values cs before (m ∷ ns) (y ∷ zs) c b n (inl h) z (inl e) =
    subst IsValue (sym e) (elim h.0 as (λ _. IsValue y) [ inl j ↦ c y j | inr j ↦ b y j ])
blocks_values cs before (m ∷ ns) (y ∷ zs) c b n (inl h) z (inr i) = blocks_values cs before (m ∷ ns) zs c b n h.1 z i
blocks_values cs before (m ∷ ns) (y ∷ zs) c b n (inr h) z (inl e) = subst IsValue (sym (e ∙ h.0)) (n m (inl refl))
blocks_values cs before (m ∷ ns) (y ∷ zs) c b n (inr h) z (inr i) =
    blocks_values cs (m ∷ before) ns zs c (λ v j. elim j as (λ _. IsValue v)
    [ inl q ↦ subst IsValue (sym q) (n m (inl refl)) | inr k ↦ b v k ]) (λ v j. n v (inr j)) h.1 z i

lists_values : (k : Kind) (cs : List ℤ) (n : ℕ) (ls : List (List ℤ)) → AreValues cs → AreListsAt k cs n ls
    → (zs : List ℤ) → In zs ls → AreValues zs
lists_values free cs n ls c h zs i =
    elim (subst (In zs) h.3 i) as (λ _. AreValues zs) [
      | inl e ↦ subst AreValues (sym e) h.2.values
      | inr none ↦ absurd
          none
    ]
lists_values equal cs n ls c h zs i = blocks_values cs [] h.0 zs c (λ v j. absurd j) h.2.values ((h.3 zs).0 i).1
lists_values ordered cs n ls c h zs i = (h.stated zs i).1.values

-- a value stands at a sort
at_some_sort : (ks : List ℕ) (zs : List ℤ) (z : ℤ) → length zs ≡ length ks → In z zs → (k : ℕ) × In k ks
    × In z (values_at k ks zs)
at_some_sort ks [] z l i = absurd i
at_some_sort [] (y ∷ zs) z l i = absurd (omega (arith, l))
at_some_sort (k ∷ ks) (y ∷ zs) z l (inl e) = (
  k,
  inl refl,
  subst (λ b. In z (cond b (y ∷ values_at k ks zs) (values_at k ks zs))) (sym (eq-eqb k k refl)) (inl e),
)
at_some_sort (k ∷ ks) (y ∷ zs) z l (inr i) =
    let w = at_some_sort ks zs z (omega (arith, l)) i in (
      w.0,
      inr w.1,
      elim (nat_eq k w.0) as (λ b. In z (cond b (y ∷ values_at w.0 ks zs) (values_at w.0 ks zs)))
          [ true ↦ inr w.2 | false ↦ w.2 ],
    )

pub combinations_values : CombinationsAreValues
combinations_values s ks rs constants all zs i z j =
    let c = (all.combined zs).0 i in
    let w = at_some_sort ks zs z c.0 j in
    lists_values (s.kind w.0) (s.constants w.0) (sort_count w.0 ks) (all.lists w.0) (constants w.0) (all.each w.0 w.1)
    (values_at w.0 ks zs) (c.1 w.0 w.1) z w.2
