-- Sorted lists of any kind, in a total order in which only equal items tie.
use Rattle.std.proofs.Common.{◌≡◌, ℕ, suc, ◌+◌, ◌-◌, ◌<◌, true, false, cond, List, [], ◌∷◌, ◌++◌, length, get_or, refl}
use Rattle.std.proofs.Common.{sym, ap, ◌∙◌, arith}
use Rattle.std.specs.Prelude.{IsTrue, not, Some, slice_get}
use mathlib.Core.Bool.{true≢false}
use Rattle.std.specs.List.Sorted.{IsSorted, IsPermutation}
use Rattle.std.proofs.lemmas.List.Sorted.{sum_by-IsPermutation}
use Rattle.std.specs.declared.cmp.Ordering.{Ordering}
use Rattle.std.specs.declared.cmp.Ordering.TheVariants as order
use Rattle.std.specs.Ordering.{is_lt, is_gt, eq_by_cmp, ordering_reverse}
use Rattle.std.specs.Cmp.{IsTotalOrder}
use Rattle.std.specs.FinMap.{IsAntisymmetric}
use Rattle.std.proofs.lemmas.Bool.{and_from, and_parts}
use Rattle.chr_base.specs.FinBag as bag
use Rattle.chr_base.proofs.FinBags as bag_laws
use Rattle.chr_base.specs.FinBag.{is_rising, none_below}
use Rattle.chr_base.proofs.FinBags.{none_below_further, not_gt, total_is, is_true, from_true}

module _ {K : Type 0} {R : K → K → Ordering} (o : IsTotalOrder R) where
  before : (x y : K) → is_lt (R y x) ≡ false → is_gt (R x y) ≡ false
  before x y h = rw (o.antisymm x y) (by (R y x) h)
    where
      by : (r : Ordering) → is_lt r ≡ false → is_gt (ordering_reverse r) ≡ false
      by order.Less p = absurd (true≢false p)
      by order.Equal p = refl
      by order.Greater p = refl

  -- items that never fall, with one in front that is not after the first of them, never fall
  pub rising_more : (x y : K) (ys : List K) → is_gt (R x y) ≡ false → IsTrue (is_rising R (y ∷ ys))
      → IsTrue (is_rising R (x ∷ y ∷ ys))
  rising_more x y ys step more =
      let far : none_below R x ys ≡ true = is_true _ (none_below_further R o x y ys step
      (from_true _ ((and_parts (none_below R y ys) _ more).0))) in
      and_from (none_below R x (y ∷ ys)) _ (and_from (not (is_gt (R x y))) _ (rw step refl) far) more

  -- items that never fall from one to the next never fall
  pub rising_by_neighbours : (xs : List K) → ((k : ℕ) (d : K) → k + 1 < length xs
      → is_gt (R (get_or xs k d) (get_or xs (k + 1) d)) ≡ false) → IsTrue (is_rising R xs)
  rising_by_neighbours [] h = refl
  rising_by_neighbours (x ∷ []) h = refl
  rising_by_neighbours (x ∷ y ∷ ys) h =
      rising_more x y ys (h 0 x (omega arith))
      (rising_by_neighbours (y ∷ ys) (λ k d l. let e : suc k + 1 ≡ suc (k + 1) = omega arith in
      rw e at (h (suc k) d (omega arith))))

  -- what is sorted never falls
  pub rising_from_sorted : (xs : List K) → IsSorted R xs → IsTrue (is_rising R xs)
  rising_from_sorted xs h = rising_by_neighbours xs (λ k d l. before _ _ (h k d (omega arith) l))

  -- lists that never fall, of which the one's last does not come after the other's first, never fall in a row
  pub rising_append : (xs ys : List K) → IsTrue (is_rising R xs) → IsTrue (is_rising R ys)
      → ((x y : K) → slice_get xs (length xs - 1) ≡ Some x → slice_get ys 0 ≡ Some y → is_gt (R x y) ≡ false)
      → IsTrue (is_rising R (xs ++ ys))
  rising_append [] ys h g p = g
  rising_append (x ∷ []) [] h g p = refl
  rising_append (x ∷ []) (y ∷ ys) h g p = rising_more x y ys (p x y refl refl) g
  rising_append (x ∷ z ∷ zs) ys h g p =
      let parts = and_parts (none_below R x (z ∷ zs)) _ h in
      rising_more x z (zs ++ ys) (not_gt _ (from_true _ ((and_parts (not (is_gt (R x z))) _ (parts.0)).0)))
      (rising_append (z ∷ zs) ys (parts.1) g (λ a b k l. let e : length (x ∷ z ∷ zs) - 1 ≡ suc (length (z ∷ zs) - 1) =
      omega arith in p a b (ap (slice_get (x ∷ z ∷ zs)) e ∙ k) l))

  module _ (exact : IsAntisymmetric R) where
    -- lists of the same items in different orders make the same multiset
    pub same_multiset : (xs ys : List K) → IsPermutation xs ys → bag.of_list {R = R} ys ≡ bag.of_list xs
    same_multiset xs ys p = bag_laws.same_bag o exact _ _ (λ q.
        bag_laws.count-of_list o ys q
        ∙ total_is (λ x. cond (eq_by_cmp R q x) 1 0) ys
        ∙ sum_by-IsPermutation (λ x. cond (eq_by_cmp R q x) 1 0) xs ys p
        ∙ sym (total_is (λ x. cond (eq_by_cmp R q x) 1 0) xs)
        ∙ sym (bag_laws.count-of_list o xs q))

    -- sorted, it is the list in order
    pub in_order : (xs ys : List K) → IsPermutation xs ys → IsSorted R ys → ys ≡ bag.items (bag.of_list {R = R} xs)
    in_order xs ys p s = sym (bag_laws.items-of_list o exact ys (from_true _ (rising_from_sorted ys s)))
        ∙ ap bag.items (same_multiset xs ys p)
