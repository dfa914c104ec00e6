-- What lists become by an edit at a place, and counts in them.
use Rattle.std.specs.Prelude.{◌≡◌, ℕ, zero, suc, ◌+◌, ◌≤◌, ◌<◌, true, false, cond, List, [], ◌∷◌, length, get_or, take}
use Rattle.std.specs.List.{insert, remove}
use Rattle.std.proofs.Common.{refl, sym, ap, arith, inl, inr, ◌⊎◌}
use Rattle.std.proofs.lemmas.List.{take_more}
use mathlib.Core.Bool.{true≢false}
use Rattle.std.specs.declared.cmp.Ordering.{Ordering}
use Rattle.std.specs.declared.cmp.Ordering.TheVariants.{Less, Equal, Greater}
use Rattle.std.specs.Ordering.{is_eq, is_gt, eq_by_cmp}
use Rattle.std.specs.Cmp.{IsTotalOrder}
use Rattle.chr_base.proofs.FinBags.{total-append}
use Rattle.chr_base.specs.FinBag.{put, without, count_in}

module _ {K : Type 0} (R : K → K → Ordering) where
  -- k goes in before the first item that it does not come after
  pub put_at : (k : K) (es : List K) (i : ℕ) (d : K) → i ≤ length es
      → ((j : ℕ) → j < i → is_gt (R k (get_or es j d)) ≡ true)
      → (i < length es → is_gt (R k (get_or es i d)) ≡ false) → put R k es ≡ insert es i k
  put_at k [] zero d l b h = refl
  put_at k [] (suc i) d l b h = absurd (omega arith)
  put_at k (e ∷ es) zero d l b h = let p : is_gt (R k e) ≡ false = h (omega arith) in rw p refl
  put_at k (e ∷ es) (suc i) d l b h =
      let p : is_gt (R k e) ≡ true = b 0 (omega arith) in
      rw p (ap (λ xs. e ∷ xs) (put_at k es i d (omega arith) (λ j g. b (suc j) (omega arith)) (λ g. h (omega arith))))

  pub without_at : (k : K) (es : List K) (i : ℕ) (d : K) → i < length es
      → ((j : ℕ) → j < i → eq_by_cmp R k (get_or es j d) ≡ false)
      → eq_by_cmp R k (get_or es i d) ≡ true → without R k es ≡ remove es i
  without_at k [] i d l b h = absurd (omega arith)
  without_at k (e ∷ es) zero d l b h = let p : eq_by_cmp R k e ≡ true = h in rw p refl
  without_at k (e ∷ es) (suc i) d l b h =
      let p : eq_by_cmp R k e ≡ false = b 0 (omega arith) in
      rw p (ap (λ xs. e ∷ xs) (without_at k es i d (omega arith) (λ j g. b (suc j) (omega arith)) h))

  pub without_none : (k : K) (es : List K) (d : K) → ((j : ℕ) → j < length es → eq_by_cmp R k (get_or es j d) ≡ false)
      → without R k es ≡ es
  without_none k [] d b = refl
  without_none k (e ∷ es) d b =
      let p : eq_by_cmp R k e ≡ false = b 0 (omega arith) in
      rw p (ap (λ xs. e ∷ xs) (without_none k es d (λ j g. b (suc j) (omega arith))))

  pub count_in_more : (q : K) (xs : List K) (i : ℕ) (d : K) → i < length xs → count_in R q (take (i + 1) xs)
      ≡ cond (eq_by_cmp R q (get_or xs i d)) 1 0 + count_in R q (take i xs)
  count_in_more q xs i d l =
      let e = ap (count_in R q) (take_more xs i d l) in
      let f = total-append (λ x. cond (eq_by_cmp R q x) 1 0) (take i xs) (get_or xs i d ∷ []) in
      omega (arith, e, f)

  -- an item that stands somewhere in the list
  pub stands : (q : K) (xs : List K) (d : K) → (count_in R q xs ≡ 0)
      ⊎ ((i : ℕ) × (i < length xs) × (eq_by_cmp R q (get_or xs i d) ≡ true))
  stands q [] d = inl refl
  stands q (x ∷ xs) d =
      elim (eq_by_cmp R q x) as (λ b. eq_by_cmp R q x ≡ b → (cond b 1 0 + count_in R q xs ≡ 0)
      ⊎ ((i : ℕ) × (i < suc (length xs)) × (eq_by_cmp R q (get_or (x ∷ xs) i d) ≡ true))) [
        | true ↦ λ p. inr (0, omega arith, p)
        | false ↦ λ p. elim (stands q xs d) as (λ _. (0 + count_in R q xs ≡ 0)
            ⊎ ((i : ℕ) × (i < suc (length xs)) × (eq_by_cmp R q (get_or (x ∷ xs) i d) ≡ true))) [
              | inl h ↦ inl (omega (arith, h))
              | inr w ↦ inr (suc w.0, omega (arith, w.1), w.2)
            ]
      ] refl

  module _ (o : IsTotalOrder R) where
    tied_counts : (q x : K) (xs : List K) → R q x ≡ Equal → count_in R q xs ≡ count_in R x xs
    tied_counts q x [] p = refl
    tied_counts q x (y ∷ ys) p = λ i. cond (is_eq (o.congr q x y p i)) 1 0 + tied_counts q x ys p i

    -- where each item of xs stands in ys at least as often as in xs, no item at all stands in xs more often than in ys
    pub within_from_each : (xs ys : List K) (d : K) → ((i : ℕ) → i < length xs
        → count_in R (get_or xs i d) xs ≤ count_in R (get_or xs i d) ys) → (q : K) → count_in R q xs ≤ count_in R q ys
    within_from_each xs ys d each q =
        elim (stands q xs d) as (λ _. count_in R q xs ≤ count_in R q ys) [
          | inl h ↦ omega (arith, h)
          | inr w ↦ (let e = is_equal (R q (get_or xs w.0 d)) w.2 in
              let a = tied_counts q (get_or xs w.0 d) xs e in
              let b = tied_counts q (get_or xs w.0 d) ys e in
              let c = each w.0 w.1 in omega (arith, a, b, c))
        ]
      where
        is_equal : (r : Ordering) → is_eq r ≡ true → r ≡ Equal
        is_equal Less p = absurd (true≢false (sym p))
        is_equal Equal p = refl
        is_equal Greater p = absurd (true≢false (sym p))

    pub within_each : (xs ys : List K) → ((i : ℕ) (d : K) → i < length xs → count_in R (get_or xs i d) xs ≤ count_in R
        (get_or xs i d) ys) → (q : K) → count_in R q xs ≤ count_in R q ys
    within_each xs ys each q = within_from_each xs ys q (λ i h. each i q h) q
