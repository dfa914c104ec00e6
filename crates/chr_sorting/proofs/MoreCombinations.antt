-- The lists of all sorts, and whether there are more combinations than a limit.
use Rattle.std.specs.Prelude.{◌≡◌, ℕ, suc, ℤ, ◌+◌, ◌^◌, ◌<◌, ◌≤◌, ◌↔◌, IsTrue, Bool, true, false, cond, nat_eq, List}
use Rattle.std.specs.Prelude.{[], ◌∷◌, ◌++◌, map, length}
use mathlib.Core.Bool.{true≢false}
use Rattle.std.proofs.Common.{refl, sym, ap, subst, ◌∙◌, arith, inl, inr}
use Rattle.std.proofs.lemmas.Bool.{eqb-true, eq-eqb}
use Rattle.chr_types.specs.OrderTypes.{In, Rises, AreValues}
use Rattle.chr_types.specs.Visits.{Visited}
use Rattle.chr_types.specs.declared.visitors.LimitedCount.{LimitedCount}
use Rattle.chr_types.proofs.Counted.{Step, counted_past, counted_within}
use Rattle.chr_types.proofs.Members.{in_last}
use Rattle.chr_confluence.specs.Sorts.{Sorts, Kind}
use Rattle.chr_confluence.specs.SortLists.{sort_count}
use Rattle.chr_sorting.specs.SortedCaseLists.{AreListsAt, MoreListsThan, AreCombinations, MoreCombinationsThan}
use Rattle.chr_sorting.specs.declared.weave.SortLists.{SortLists}
use Rattle.chr_sorting.specs.working.Weaving.{held, woven, AreListsOf, HasMoreLists, LeaveRoom}
use Rattle.chr_sorting.proofs.Combined.{is_one, one_in, in_one}
use Rattle.chr_sorting.proofs.ListsThere.{lists_there}
use Rattle.chr_sorting.proofs.OneCombinations.{combinations_one}
use Rattle.chr_sorting.proofs.Weaving.{held_here, held_elsewhere}
use Rattle.chr_sorting.proofs.Woven.{woven_are, as_long}

-- ---- one class more

counted_more : (ks : List ℕ) (j k : ℕ) → sort_count k (ks ++ j ∷ []) ≡ cond (nat_eq j k) (suc (sort_count k ks))
    (sort_count k ks)
counted_more [] j k = refl
counted_more (i ∷ ks) j k = elim (nat_eq i k) as (λ b. cond b (suc (sort_count k (ks ++ j ∷ [])))
    (sort_count k (ks ++ j ∷ [])) ≡ cond (nat_eq j k) (suc (cond b (suc (sort_count k ks)) (sort_count k ks)))
    (cond b (suc (sort_count k ks)) (sort_count k ks))) [
      | true ↦ ap suc (counted_more ks j k) ∙ by (nat_eq j k) (sort_count k ks)
      | false ↦ counted_more ks j k
    ]
  where
    by : (b : Bool) (n : ℕ) → suc (cond b (suc n) n) ≡ cond b (suc (suc n)) (suc n)
    by true n = refl
    by false n = refl

pub counted_same : (ks : List ℕ) (j k : ℕ) → j ≡ k → sort_count k (ks ++ j ∷ []) ≡ sort_count k ks + 1
counted_same ks j k e =
    let a = counted_more ks j k ∙ ap (λ b. cond b (suc (sort_count k ks)) (sort_count k ks)) (eq-eqb j k e) in
    omega (arith, a)

pub counted_other : (ks : List ℕ) (j k : ℕ) → (j ≡ k → ⊥) → sort_count k (ks ++ j ∷ []) ≡ sort_count k ks
counted_other ks j k n = counted_more ks j k ∙ by (nat_eq j k) refl
  where
    by : (b : Bool) → nat_eq j k ≡ b → cond (nat_eq j k) (suc (sort_count k ks)) (sort_count k ks) ≡ sort_count k ks
    by true e = absurd (n (eqb-true j k e))
    by false e = ap (λ b. cond b (suc (sort_count k ks)) (sort_count k ks)) e

pub counted_most : (ks : List ℕ) (k : ℕ) → sort_count k ks ≤ length ks
counted_most [] k = omega arith
counted_most (j ∷ ks) k =
    let l = counted_most ks k in
    elim (nat_eq j k) as (λ b. cond b (suc (sort_count k ks)) (sort_count k ks) ≤ suc (length ks))
    [ true ↦ omega (arith, l) | false ↦ omega (arith, l) ]

pub more_like : (limit : ℕ) (a b : Kind) (cs ds : List ℤ) (m n : ℕ) → a ≡ b → cs ≡ ds → m ≡ n
    → MoreListsThan limit a cs m → MoreListsThan limit b ds n
more_like limit a b cs ds m n k c e h = subst (λ x. MoreListsThan limit b ds x) e
    (subst (λ x. MoreListsThan limit b x m) c (subst (λ x. MoreListsThan limit x cs m) k h))

pub lists_like : (ls : List (List ℤ)) (a b : Kind) (cs ds : List ℤ) (m n : ℕ) → a ≡ b → cs ≡ ds → m ≡ n
    → AreListsAt a cs m ls → AreListsAt b ds n ls
lists_like ls a b cs ds m n k c e h = subst (λ x. AreListsAt b ds x ls) e
    (subst (λ x. AreListsAt b x m ls) c (subst (λ x. AreListsAt x cs m ls) k h))

pub room_more : (s : Sorts) (n : ℕ) (js : List ℕ) (k : ℕ) → LeaveRoom s n js → AreValues (s.constants k)
    → length (s.constants k) + n ≤ 2 ^ 62 → LeaveRoom s n (js ++ k ∷ [])
room_more s n js k h v l j i = elim (in_last j k js i) as (λ _. AreValues (s.constants j)
    × (length (s.constants j) + n ≤ 2 ^ 62)) [
      | inl m ↦ h j m
      | inr e ↦ subst (λ x. AreValues (s.constants x) × (length (s.constants x) + n ≤ 2 ^ 62)) (sym e) (v, l)
    ]

pub lists_known : (s : Sorts) (js ks : List ℕ) (k : ℕ) (lists : ℕ → List (List ℤ)) → AreListsOf s js ks lists → In k js
    → AreListsOf s (js ++ k ∷ []) ks lists
lists_known s js ks k lists h i j m = elim (in_last j k js m) as (λ _. AreListsAt (s.kind j) (s.constants j)
    (sort_count j ks) (lists j)) [
      | inl n ↦ h j n
      | inr e ↦ h j (subst (λ x. In x js) (sym e) i)
    ]

pub lists_pushed : (s : Sorts) (js ks : List ℕ) (k : ℕ) (all : List SortLists) (one : SortLists)
    → AreListsOf s js ks (held all) → one.sort ≡ k
    → AreListsAt (s.kind k) (s.constants k) (sort_count k ks) (map (λ l. l.items) one.lists.items)
    → AreListsOf s (js ++ k ∷ []) ks (held (all ++ one ∷ []))
lists_pushed s js ks k all one h e are j m = by (nat_eq k j) refl
  where
    by : (b : Bool) → nat_eq k j ≡ b → AreListsAt (s.kind j) (s.constants j) (sort_count j ks)
        (held (all ++ one ∷ []) j)
    by true g =
        let same : k ≡ j = eqb-true k j g in
        subst (AreListsAt (s.kind j) (s.constants j) (sort_count j ks)) (sym (held_here all one j (e ∙ same)))
        (subst (λ x. AreListsAt (s.kind x) (s.constants x) (sort_count x ks) (map (λ l. l.items) one.lists.items)) same
        are)
    by false g =
        let other : k ≡ j → ⊥ = λ same. true≢false (sym (eq-eqb k j same) ∙ g) in
        elim (in_last j k js m) as (λ _. AreListsAt (s.kind j) (s.constants j) (sort_count j ks)
        (held (all ++ one ∷ []) j)) [
          | inl n ↦ subst (AreListsAt (s.kind j) (s.constants j) (sort_count j ks))
              (sym (held_elsewhere all one j (λ f. other (sym e ∙ f)))) (h j n)
          | inr f ↦ absurd (other (sym f))
        ]

-- ---- lists of all sorts are there

module _ (s : Sorts) (ks : List ℕ) (rises : (k : ℕ) → Rises (s.constants k)) (room : LeaveRoom s (length ks) ks) where
  -- the lists of a sort, if it is one of these
  abbrev made : (j : ℕ) (b : Bool) → is_one j ks ≡ b → (ls : List (List ℤ))
      × (In j ks → AreListsAt (s.kind j) (s.constants j) (sort_count j ks) ls)
  made j true e =
      let r = room j (one_in j ks e) in
      let m = counted_most ks j in
      let l = r.1 in
      let t = lists_there (s.kind j) (s.constants j) (sort_count j ks) (omega (arith, l, m)) (rises j) r.0 in
      (t.0, λ _. t.1)
  made j false e = ([], λ i. absurd (true≢false (sym (in_one j ks i) ∙ e)))

  -- there is a list of all combinations
  pub combinations_there : (rs : List (List ℤ)) × AreCombinations s ks rs
  combinations_there = (
    woven ks (λ j. (made j (is_one j ks) refl).0) [],
    woven_are s ks (λ j. (made j (is_one j ks) refl).0) (λ j i. (made j (is_one j ks) refl).1 i),
  )

  abbrev with_lists : (k : ℕ) (ls : List (List ℤ)) → AreListsAt (s.kind k) (s.constants k) (sort_count k ks) ls
      → (j : ℕ) (b : Bool) → nat_eq k j ≡ b
      → (ms : List (List ℤ)) × (In j ks → AreListsAt (s.kind j) (s.constants j) (sort_count j ks) ms)
  with_lists k ls are j true e = (
    ls,
    λ _. subst (λ x. AreListsAt (s.kind x) (s.constants x) (sort_count x ks) ls)
        (eqb-true k j e) are,
  )
  with_lists k ls are j false e = made j (is_one j ks) refl

  -- where a sort has more lists than the limit, there are more combinations
  pub more_there : (limit : ℕ) → HasMoreLists limit s ks → MoreCombinationsThan s ks limit
  more_there limit h = (
    woven ks lists [],
    woven_are s ks lists each,
    (let l = as_long s ks lists each h.0 h.1 in let m = enough (nat_eq h.0 h.0) refl in omega (arith, l, m)),
  )
    where
      lists : ℕ → List (List ℤ)
      lists j = (with_lists h.0 h.2.0 h.2.1 j (nat_eq h.0 j) refl).0

      each : (j : ℕ) → In j ks → AreListsAt (s.kind j) (s.constants j) (sort_count j ks) (lists j)
      each j i = (with_lists h.0 h.2.0 h.2.1 j (nat_eq h.0 j) refl).1 i

      enough : (b : Bool) (e : nat_eq h.0 h.0 ≡ b) → limit < length (with_lists h.0 h.2.0 h.2.1 h.0 b e).0
      enough true e = h.2.2
      enough false e = absurd (true≢false (sym (eq-eqb h.0 h.0 refl) ∙ e))

-- ---- counting

pub told_more : (s : Sorts) (ks : List ℕ) (limit : ℕ) (rs : List (List ℤ)) (w : LimitedCount) (more : Bool)
    → ((k : ℕ) → Rises (s.constants k)) → AreCombinations s ks rs
    → Visited Step (record { found = 0; limit = limit }) rs more w → IsTrue more ↔ MoreCombinationsThan s ks limit
told_more s ks limit rs w true rises are v = (
  λ _. (
    rs,
    are,
    (let l = counted_past rs (record { found = 0; limit = limit }) w v in omega (arith, l)),
  ),
  λ _. refl,
)
told_more s ks limit rs w false rises are v = (
  λ i. absurd (true≢false (sym i)),
  λ m. absurd (
      let l = counted_within rs (record { found = 0; limit = limit }) w (omega arith) v in
      let e = ap (λ (xs : List (List ℤ)). length xs) (combinations_one s ks rs m.0 rises are m.1) in
      let g = m.2 in
      omega (arith, l, e, g)
      ),
)
