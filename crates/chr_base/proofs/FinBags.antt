-- Laws of finite multisets.
use Rattle.std.specs.Prelude.{◌≡◌, ℕ, ◌+◌, ◌-◌, ◌≤◌, Bool, true, false, cond, not, ◌&&◌, T, List, [], ◌∷◌, ◌++◌}
use Rattle.std.specs.List.{sum_by, flat_map}
use Rattle.std.proofs.lemmas.List.Recursion.{is_sum_by}
use Rattle.std.proofs.Common.{refl, sym, ap, subst, ◌∙◌, arith}
use Rattle.std.specs.declared.cmp.Ordering.{Ordering}
use Rattle.std.specs.declared.cmp.Ordering.TheVariants.{Less, Equal, Greater}
use Rattle.std.specs.Ordering.{is_eq, is_gt, ordering_reverse, eq_by_cmp}
use Rattle.std.specs.Cmp.{IsTotalOrder, tied_itself, alike_right, upto}
use Rattle.std.specs.FinMap.{IsAntisymmetric}
use Rattle.chr_base.specs.FinBag.{FinBag, total, none_below, is_rising, put, insertion_sort, without, without_all}
use Rattle.chr_base.specs.FinBag.{count_in, items, empty, rising_bag, of_list, count, add, ◌⊕◌, ◌⊖◌, IsWithin, sum_over}
use Rattle.chr_base.specs.working.Codes.{same_items}

pub both : (a b : Bool) → T a → T b → T (a && b)
both true b p q = q
both false b p q = p

pub first : (a b : Bool) → T (a && b) → T a
first true b p = tt
first false b p = p

pub second : (a b : Bool) → T (a && b) → T b
second true b p = p
second false b p = absurd p

pub is_true : (b : Bool) → T b → b ≡ true
is_true true p = refl
is_true false p = absurd p

pub from_true : (b : Bool) → b ≡ true → T b
from_true b e = subst T (sym e) tt

pub not_gt : (o : Ordering) → T (not (is_gt o)) → is_gt o ≡ false
not_gt Less p = refl
not_gt Equal p = refl
not_gt Greater p = absurd p

eq_is : (o : Ordering) → is_eq o ≡ true → o ≡ Equal
eq_is Less p = absurd (subst T (sym p) tt)
eq_is Equal p = refl
eq_is Greater p = absurd (subst T (sym p) tt)

pub total_is : {K : Type 0} (f : K → ℕ) (xs : List K) → total f xs ≡ sum_by f xs
total_is f = is_sum_by (total f) f refl (λ _ _. refl)

pub total-append : {K : Type 0} (f : K → ℕ) (xs ys : List K) → total f (xs ++ ys) ≡ total f xs + total f ys
total-append f [] ys = omega arith
total-append f (x ∷ xs) ys = let h = total-append f xs ys in omega (arith, h)

pub total-flat : {X K : Type 0} (f : K → ℕ) (g : X → List K) (xs : List X) → total f (flat_map g xs)
    ≡ total (λ x. total f (g x)) xs
total-flat f g [] = refl
total-flat f g (x ∷ xs) = let h = total-flat f g xs in let e = total-append f (g x) (flat_map g xs) in
    omega (arith, h, e)

module _ {K : Type 0} (R : K → K → Ordering) where
  none_below_put : (x k : K) (es : List K) → T (not (is_gt (R x k))) → T (none_below R x es)
      → T (none_below R x (put R k es))
  none_below_put x k [] p h = both _ _ p tt
  none_below_put x k (e ∷ es) p h =
      elim (is_gt (R k e)) as (λ b. T (none_below R x (cond b (e ∷ put R k es) (k ∷ e ∷ es)))) [
        | true ↦ both _ _ (first _ _ h) (none_below_put x k es p (second _ _ h))
        | false ↦ both _ _ p h
      ]

  none_below_without : (x k : K) (es : List K) → T (none_below R x es) → T (none_below R x (without R k es))
  none_below_without x k [] h = tt
  none_below_without x k (e ∷ es) h =
      elim (eq_by_cmp R k e) as (λ b. T (none_below R x (cond b es (e ∷ without R k es)))) [
        | true ↦ second _ _ h
        | false ↦ both _ _ (first _ _ h) (none_below_without x k es (second _ _ h))
      ]

  pub is_rising-without : (k : K) (es : List K) → T (is_rising R es) → T (is_rising R (without R k es))
  is_rising-without k [] h = tt
  is_rising-without k (e ∷ es) h =
      elim (eq_by_cmp R k e) as (λ b. T (is_rising R (cond b es (e ∷ without R k es)))) [
        | true ↦ second _ _ h
        | false ↦ both _ _ (none_below_without e k es (first _ _ h)) (is_rising-without k es (second _ _ h))
      ]

  -- a sum does not see the order
  pub total-put : (f : K → ℕ) (k : K) (es : List K) → total f (put R k es) ≡ f k + total f es
  total-put f k [] = refl
  total-put f k (e ∷ es) =
      elim (is_gt (R k e)) as (λ b. total f (cond b (e ∷ put R k es) (k ∷ e ∷ es)) ≡ f k + (f e + total f es)) [
        | true ↦ let h = total-put f k es in omega (arith, h)
        | false ↦ refl
      ]

  pub total-sort : (f : K → ℕ) (ks : List K) → total f (insertion_sort R ks) ≡ total f ks
  total-sort f [] = refl
  total-sort f (k ∷ ks) = let h = total-sort f ks in let g = total-put f k (insertion_sort R ks) in omega (arith, h, g)

  module _ (o : IsTotalOrder R) where
    turned : (k e : K) → is_gt (R k e) ≡ true → T (not (is_gt (R e k)))
    turned k e h = subst (λ r. T (not (is_gt r))) (sym (o.antisymm e k)) (back (R k e) h)
      where
        back : (r : Ordering) → is_gt r ≡ true → T (not (is_gt (ordering_reverse r)))
        back Less p = absurd (subst T (sym p) tt)
        back Equal p = tt
        back Greater p = tt

    pub none_below_further : (x y : K) (es : List K) → is_gt (R x y) ≡ false → T (none_below R y es)
        → T (none_below R x es)
    none_below_further x y [] p h = tt
    none_below_further x y (e ∷ es) p h =
        both _ _ (subst (λ b. T (not b)) (sym (upto o x y e p (not_gt _ (first _ _ h)))) tt)
        (none_below_further x y es p (second _ _ h))

    pub is_rising-put : (k : K) (es : List K) → T (is_rising R es) → T (is_rising R (put R k es))
    is_rising-put k [] h = tt
    is_rising-put k (e ∷ es) h =
        elim (is_gt (R k e)) as (λ b. is_gt (R k e) ≡ b → T (is_rising R (cond b (e ∷ put R k es) (k ∷ e ∷ es)))) [
          | true ↦ λ p. both _ _ (none_below_put e k es (turned k e p) (first _ _ h))
              (is_rising-put k es (second _ _ h))
          | false ↦ λ p. both _ _ (both _ _ (subst (λ b. T (not b)) (sym p) tt)
              (none_below_further k e es p (first _ _ h))) h
        ] refl

    pub is_rising-sort : (ks : List K) → T (is_rising R (insertion_sort R ks))
    is_rising-sort [] = tt
    is_rising-sort (k ∷ ks) = is_rising-put k _ (is_rising-sort ks)

    pub count_in-without : (q k : K) (es : List K) → count_in R q (without R k es)
        ≡ count_in R q es - cond (eq_by_cmp R q k) 1 0
    count_in-without q k [] = omega arith
    count_in-without q k (e ∷ es) =
        elim (eq_by_cmp R k e) as (λ b. eq_by_cmp R k e ≡ b → count_in R q (cond b es (e ∷ without R k es))
        ≡ (cond (eq_by_cmp R q e) 1 0 + count_in R q es) - cond (eq_by_cmp R q k) 1 0) [
          | true ↦ λ p. rw (ap is_eq (alike_right o k e q (eq_is _ p))) (omega arith)
          | false ↦ λ p. apart p (count_in-without q k es)
        ] refl
      where
        apart : eq_by_cmp R k e ≡ false → count_in R q (without R k es) ≡ count_in R q es - cond (eq_by_cmp R q k) 1 0
            → cond (eq_by_cmp R q e) 1 0 + count_in R q (without R k es)
            ≡ (cond (eq_by_cmp R q e) 1 0 + count_in R q es) - cond (eq_by_cmp R q k) 1 0
        apart p h =
            elim (eq_by_cmp R q k) as (λ b. eq_by_cmp R q k ≡ b → count_in R q (without R k es)
            ≡ count_in R q es - cond b 1 0 → cond (eq_by_cmp R q e) 1 0 + count_in R q (without R k es)
            ≡ (cond (eq_by_cmp R q e) 1 0 + count_in R q es) - cond b 1 0) [
              | true ↦ λ t h. rw (ap is_eq (o.congr q k e (eq_is _ t)), p) (rw h (omega arith))
              | false ↦ λ t h. rw h (omega arith)
            ] refl h

    -- where x comes before y, and no item of the list does, x is not in the list
    pub absent : (x y : K) (ys : List K) → R x y ≡ Less → T (none_below R y ys) → count_in R x ys ≡ 0
    absent x y [] p h = refl
    absent x y (z ∷ ys) p h =
        let below : R x z ≡ Less = step (R y z) refl (first _ _ h) in
        let rest : count_in R x ys ≡ 0 = absent x y ys p (second _ _ h) in
        rw below (omega (arith, rest))
      where
        step : (r : Ordering) → R y z ≡ r → T (not (is_gt r)) → R x z ≡ Less
        step Less e g = o.trans x y z p e
        step Equal e g = sym (alike_right o y z x e) ∙ p
        step Greater e g = absurd g

    pub counts_itself : (x : K) (xs : List K) → count_in R x (x ∷ xs) ≡ 1 + count_in R x xs
    counts_itself x xs = rw (tied_itself o x) refl

    module _ (same : IsAntisymmetric R) where
      pub same_lists : (xs ys : List K) → T (is_rising R xs) → T (is_rising R ys)
          → ((q : K) → count_in R q xs ≡ count_in R q ys) → xs ≡ ys
      same_lists [] [] h g is = refl
      same_lists [] (y ∷ ys) h g is = absurd (let e = is y ∙ counts_itself y ys in omega (arith, e))
      same_lists (x ∷ xs) [] h g is = absurd (let e = sym (is x) ∙ counts_itself x xs in omega (arith, e))
      same_lists (x ∷ xs) (y ∷ ys) h g is = by (R x y) refl
          (λ rest. same_lists xs ys (second _ _ h) (second _ _ g) rest)
        where
          gone : (x y : K) (xs ys : List K) → R x y ≡ Less → T (none_below R y ys) → count_in R x (x ∷ xs)
              ≡ count_in R x (y ∷ ys) → ⊥
          gone x y xs ys p g e =
              let c = absent x y ys p g in
              let a : count_in R x (y ∷ ys) ≡ 0 = rw p (omega (arith, c)) in
              let b = counts_itself x xs in
              omega (arith, a, b, e)

          by : (r : Ordering) → R x y ≡ r → (((q : K) → count_in R q xs ≡ count_in R q ys) → xs ≡ ys) → x ∷ xs ≡ y ∷ ys
          by Less p more = absurd (gone x y xs ys p (first _ _ g) (is x))
          by Greater p more = absurd (gone y x ys xs (o.antisymm y x ∙ ap ordering_reverse p) (first _ _ h)
              (sym (is y)))
          by Equal p more =
              let e : x ≡ y = same x y p in
              let rest : (q : K) → count_in R q xs ≡ count_in R q ys =
              λ q. (let h = is q ∙ ap (λ z. cond (eq_by_cmp R q z) 1 0 + count_in R q ys) (sym e) in
              omega (arith, h)) in
              λ i. e i ∷ more rest i

module _ {K : Type 0} {R : K → K → Ordering} where
  pub items_rise : (s : FinBag R) → T (is_rising R (items s))
  unfolding items
  items_rise s = s.sorted

  pub count-items : (s : FinBag R) (q : K) → count s q ≡ count_in R q (items s)
  unfolding count
  count-items s q = refl

  pub sum_over-items : (f : K → ℕ) (s : FinBag R) → sum_over f s ≡ total f (items s)
  unfolding sum_over
  sum_over-items f s = refl

module _ {K : Type 0} (R : K → K → Ordering) where
  items-rising_bag : (es : List K) (b : Bool) (e : is_rising R es ≡ b) → T b → items (rising_bag {R = R} es b e) ≡ es
  unfolding items rising_bag
  items-rising_bag es true e h = refl
  items-rising_bag es false e h = absurd h

  pub count-empty : (q : K) → count (empty {R = R}) q ≡ 0
  unfolding count items empty
  count-empty q = refl

  pub sum_over-empty : (f : K → ℕ) → sum_over f (empty {R = R}) ≡ 0
  unfolding sum_over items empty
  sum_over-empty f = refl

  pub of_list-none : of_list {R = R} [] ≡ empty
  unfolding of_list rising_bag items empty
  of_list-none = same_items _ _ refl

module _ {K : Type 0} {R : K → K → Ordering} (o : IsTotalOrder R) where
  items-of_list_sorted : (xs : List K) → items (of_list {R = R} xs) ≡ insertion_sort R xs
  unfolding of_list
  items-of_list_sorted xs = items-rising_bag R _ _ refl (is_rising-sort R o xs)

  pub count-of_list : (xs : List K) (q : K) → count (of_list {R = R} xs) q ≡ count_in R q xs
  unfolding count
  count-of_list xs q = ap (count_in R q) (items-of_list_sorted xs) ∙ total-sort R (λ x. cond (eq_by_cmp R q x) 1 0) xs

  pub sum_over-of_list : (f : K → ℕ) (xs : List K) → sum_over f (of_list {R = R} xs) ≡ total f xs
  unfolding sum_over
  sum_over-of_list f xs = ap (total f) (items-of_list_sorted xs) ∙ total-sort R f xs

  pub count-add : (s : FinBag R) (k q : K) → count (add s k) q ≡ cond (eq_by_cmp R q k) 1 0 + count s q
  unfolding add
  count-add s k q = let a = count-of_list (k ∷ items s) q in let b = count-items s q in omega (arith, a, b)

  pub count-⊕ : (s t : FinBag R) (q : K) → count (s ⊕ t) q ≡ count s q + count t q
  unfolding ◌⊕◌
  count-⊕ s t q =
      let a = count-of_list (items s ++ items t) q in
      let b = total-append (λ x. cond (eq_by_cmp R q x) 1 0) (items s) (items t) in
      let c = count-items s q in
      let d = count-items t q in
      omega (arith, a, b, c, d)

  pub sum_over-⊕ : (f : K → ℕ) (s t : FinBag R) → sum_over f (s ⊕ t) ≡ sum_over f s + sum_over f t
  unfolding ◌⊕◌
  sum_over-⊕ f s t =
      let a = sum_over-of_list f (items s ++ items t) in
      let b = total-append f (items s) (items t) in
      let c = sum_over-items f s in
      let d = sum_over-items f t in
      omega (arith, a, b, c, d)

  count_in-without_all : (q : K) (ks es : List K) → count_in R q (without_all R ks es)
      ≡ count_in R q es - count_in R q ks
  count_in-without_all q [] es = omega arith
  count_in-without_all q (k ∷ ks) es = let h = count_in-without_all q ks es in let g =
      count_in-without R o q k (without_all R ks es) in omega (arith, h, g)

  pub count-⊖ : (s t : FinBag R) (q : K) → count (s ⊖ t) q ≡ count s q - count t q
  unfolding ◌⊖◌
  count-⊖ s t q =
      let a = count-of_list (without_all R (items t) (items s)) q in
      let b = count_in-without_all q (items t) (items s) in
      let c = count-items s q in
      let d = count-items t q in
      omega (arith, a, b, c, d)

  module _ (same : IsAntisymmetric R) where
    pub same_bag : (s t : FinBag R) → ((q : K) → count s q ≡ count t q) → s ≡ t
    unfolding count
    same_bag s t is = same_items s t (same_lists R o same (items s) (items t) (items_rise s) (items_rise t) is)

    pub of_list-items : (s : FinBag R) → of_list (items s) ≡ s
    unfolding count
    of_list-items s = same_bag _ _ (λ q. count-of_list (items s) q)

    pub items-of_list : (xs : List K) → T (is_rising R xs) → items (of_list {R = R} xs) ≡ xs
    unfolding count
    items-of_list xs h = same_lists R o same _ _ (items_rise _) h (λ q. count-of_list xs q)

    pub of_list-put : (k : K) (xs : List K) → of_list {R = R} (put R k xs) ≡ add (of_list xs) k
    of_list-put k xs = same_bag _ _ (λ q. (let a = count-of_list (put R k xs) q in let b =
        total-put R (λ x. cond (eq_by_cmp R q x) 1 0) k xs in
        let c = count-add (of_list xs) k q in let d = count-of_list xs q in omega (arith, a, b, c, d)))

    pub of_list-append : (xs ys : List K) → of_list {R = R} (xs ++ ys) ≡ of_list xs ⊕ of_list ys
    of_list-append xs ys = same_bag _ _ (λ q. (let a = count-of_list (xs ++ ys) q in let b =
        total-append (λ x. cond (eq_by_cmp R q x) 1 0) xs ys in
        let c = count-⊕ (of_list xs) (of_list ys) q in let d = count-of_list xs q in let e = count-of_list ys q in
        omega (arith, a, b, c, d, e)))

    pub of_list_less : (xs ys zs : List K) → ((q : K) → count_in R q zs ≡ count_in R q xs - count_in R q ys)
        → of_list {R = R} zs ≡ of_list xs ⊖ of_list ys
    of_list_less xs ys zs h = same_bag _ _ (λ q. (let a = count-of_list xs q in let b = count-of_list ys q in let c =
        count-of_list zs q in
        let d = count-⊖ (of_list xs) (of_list ys) q in let e = h q in omega (arith, a, b, c, d, e)))

  pub within_lists : (xs ys : List K) → ((q : K) → count_in R q xs ≤ count_in R q ys)
      → IsWithin (of_list {R = R} xs) (of_list ys)
  within_lists xs ys h q = let a = count-of_list xs q in let b = count-of_list ys q in let c = h q in
      omega (arith, a, b, c)

  pub lists_within : (xs ys : List K) → IsWithin (of_list {R = R} xs) (of_list ys) → (q : K)
      → count_in R q xs ≤ count_in R q ys
  lists_within xs ys h q = let a = count-of_list xs q in let b = count-of_list ys q in let c = h q in
      omega (arith, a, b, c)
