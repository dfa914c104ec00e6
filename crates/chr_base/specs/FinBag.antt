-- Finite multisets: the list of the items in an order, so that two with the same counts are equal.
use Rattle.std.specs.Prelude.{◌≡◌, ℕ, ◌+◌, ◌≤◌, Bool, true, false, not, ◌&&◌, T, List, [], ◌∷◌, ◌++◌, length}
use Rattle.std.specs.Prelude.{if◌then◌else◌}
use Rattle.std.proofs.Common.{refl, sym, subst}
use Rattle.std.specs.declared.cmp.Ordering.{Ordering}
use Rattle.std.specs.Ordering.{is_gt, eq_by_cmp}

-- a number for each item, summed over a list
abbrev pub total : {K : Type 0} → (K → ℕ) → List K → ℕ
total f [] = 0
total f (x ∷ xs) = f x + total f xs

module _ {K : Type 0} (R : K → K → Ordering) where
  -- no item of the list comes before x
  abbrev pub none_below : K → List K → Bool
  none_below x [] = true
  none_below x (y ∷ ys) = not (is_gt (R x y)) && none_below x ys

  -- the items never fall
  abbrev pub is_rising : List K → Bool
  is_rising [] = true
  is_rising (x ∷ xs) = none_below x xs && is_rising xs

  -- the list with an item put in, before the first that it does not come after
  abbrev pub put : K → List K → List K
  put k [] = k ∷ []
  put k (e ∷ es) = if is_gt (R k e) then e ∷ put k es else k ∷ e ∷ es

  -- the items in order
  abbrev pub insertion_sort : List K → List K
  insertion_sort [] = []
  insertion_sort (k ∷ ks) = put k (insertion_sort ks)

  -- the list without an item, where that stands there
  abbrev pub without : K → List K → List K
  without k [] = []
  without k (e ∷ es) = if eq_by_cmp R k e then es else e ∷ without k es

  -- the second list without each of the items of the first, where that stands there
  abbrev pub without_all : List K → List K → List K
  without_all [] es = es
  without_all (k ∷ ks) es = without k (without_all ks es)

  -- how often an item stands in a list
  abbrev pub count_in : K → List K → ℕ
  count_in q xs = total (λ x. if eq_by_cmp R q x then 1 else 0) xs

pub record FinBag {K : Type 0} (R : K → K → Ordering) : Type 0 where
  pub list : List K
  pub sorted : T (is_rising R list)

module _ {K : Type 0} {R : K → K → Ordering} where
  -- the items of a multiset in order, one that occurs more than once as often as it does
  unfoldable pub items : FinBag R → List K
  items s = s.list

  unfoldable pub empty : FinBag R
  empty = record { list = []; sorted = tt }

  -- the multiset with these items, where they never fall
  unfoldable pub rising_bag : (es : List K) (b : Bool) → is_rising R es ≡ b → FinBag R
  rising_bag es true e = record { list = es; sorted = subst T (sym e) tt }
  rising_bag es false e = empty

  -- the multiset of these items; an order that is not total may leave them out of order, and then the empty one
  unfoldable pub of_list : List K → FinBag R
  of_list ks = rising_bag (insertion_sort R ks) (is_rising R (insertion_sort R ks)) refl

  -- how often an item stands in a multiset
  unfoldable pub count : FinBag R → K → ℕ
  count s q = count_in R q (items s)

  -- the number of items
  abbrev pub len : FinBag R → ℕ
  len s = length (items s)

  -- the multiset with one item more
  unfoldable pub add : FinBag R → K → FinBag R
  add s k = of_list (k ∷ items s)

  -- the sum of two multisets, in which an item stands as often as in both together
  infixl 6 ◌⊕◌
  unfoldable pub ◌⊕◌ : FinBag R → FinBag R → FinBag R
  s ⊕ t = of_list (items s ++ items t)

  -- the difference, in which an item stands as often as it does in s more than in t
  infixl 6 ◌⊖◌
  unfoldable pub ◌⊖◌ : FinBag R → FinBag R → FinBag R
  s ⊖ t = of_list (without_all R (items t) (items s))

  -- no item stands in s more often than in t
  abbrev pub IsWithin : FinBag R → FinBag R → Type 0
  IsWithin s t = (q : K) → count s q ≤ count t q

  -- what f gives for the items, summed
  unfoldable pub sum_over : (K → ℕ) → FinBag R → ℕ
  sum_over f s = total f (items s)
