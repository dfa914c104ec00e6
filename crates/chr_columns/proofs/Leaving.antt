-- The rows of the removed heads without the active one, place by place.
use Rattle.std.proofs.Common.{◌≡◌, ℕ, zero, suc, ◌+◌, ◌-◌, ◌<◌, ◌≤◌, List, [], ◌∷◌, ◌++◌, length, get_or, drop, true}
use Rattle.std.proofs.Common.{false, refl, sym, ap, subst, ◌∙◌, arith, inl, inr, length-append}
use Rattle.std.specs.Prelude.{remove, nat_lt}
use Rattle.std.proofs.lemmas.Bool.{cases_lt}
use Rattle.std.proofs.lemmas.Bool.Decides.{nat_tests}
use Rattle.std.proofs.lemmas.List.{append-nil, take_all, drop_all, drop-append-le, length-drop, get_or_append_left}
use Rattle.std.proofs.lemmas.List.{get_or-append_right}
use Rattle.std.proofs.lemmas.List.Edits.{length-remove, remove-append_left, remove-append_right}
use Rattle.chr_base.specs.declared.rule.Rule.{Rule}
use Rattle.chr_base.specs.Rules.{heads_of}
use Rattle.chr_plans.specs.declared.rows.Seat.{Seat}
use Rattle.chr_plans.specs.Seats.{seat, no_seat, IsSeated}
use Rattle.chr_base.specs.declared.atom.Atom.{Atom}
use Rattle.chr_plans.specs.Grids.{Grid, rows_in, SitIn}
use Rattle.chr_columns.specs.working.Firing.{kept_others, seats_to}
use Rattle.chr_columns.proofs.Firings.{sit_removed}

pub length-seats_to : (ss : List Seat) (n : ℕ) → length (seats_to ss n) ≡ n
unfolding seats_to
length-seats_to ss zero = refl
length-seats_to ss (suc n) = length-append (seats_to ss n) (seat ss n ∷ [])
    ∙ (let m = length-seats_to ss n in omega (arith, m))

pub seat_to : (ss : List Seat) (n q : ℕ) → q < n → seat (seats_to ss n) q ≡ seat ss q
unfolding seats_to
seat_to ss zero q l = absurd (omega (arith, l))
seat_to ss (suc n) q l =
    let m = length-seats_to ss n in
    let x = seat ss n ∷ [] in
    elim (cases_lt q n) as (λ _. seat (seats_to ss n ++ x) q ≡ seat ss q) [
      | inl less ↦ get_or_append_left (seats_to ss n) x no_seat q (omega (arith, less, m)) ∙ seat_to ss n q less
      | inr most ↦ subst (λ k. seat (seats_to ss n ++ x) k ≡ seat ss k) (let e : n ≡ q = omega (arith, l, most) in e)
          (get_or-append_right (seats_to ss n) x n n no_seat m (omega arith)
          ∙ ap (λ k. get_or x k no_seat) (let e : n - n ≡ 0 = omega arith in e))
    ]

-- all others of an instance sit in different rows
pub sit_to : (r : Rule) (p : ℕ) (seats : List Seat) → p < length (heads_of r) → (g : Grid) (heads : List Atom)
    → IsSeated r (rows_in g) p heads seats
    → SitIn g (remove heads p) (remove (seats_to seats (length (heads_of r))) p)
sit_to r p seats place g heads is =
    sit_removed r g p heads seats (seats_to seats (length (heads_of r))) place
    (length-seats_to seats (length (heads_of r))) (seat_to seats (length (heads_of r))) is

-- nothing is taken out past the end
remove_past : (xs : List Seat) (p : ℕ) → length xs ≤ p → remove xs p ≡ xs
remove_past xs p l = (λ i. take_all p xs l i ++ drop_all (suc p) xs (omega (arith, l)) i) ∙ append-nil xs

-- there are no more kept heads without the active one than kept heads
kept_most : (r : Rule) (p q : ℕ) → length r.kept.items ≤ q → kept_others r p ≤ q
kept_most r p q l = elim (cases_lt p (length r.kept.items)) as (λ _. kept_others r p ≤ q) [
  | inl less ↦ (let t : nat_lt p (length r.kept.items) ≡ true = grind (arith, nat_tests) in rw t (omega (arith, l)))
  | inr most ↦ (let t : nat_lt p (length r.kept.items) ≡ false = grind (arith, nat_tests) in rw t l)
]

kept_below : (r : Rule) (p q : ℕ) → length r.kept.items ≤ q → p < q → kept_others r p + 1 ≤ q
kept_below r p q l b = elim (cases_lt p (length r.kept.items)) as (λ _. kept_others r p + 1 ≤ q) [
  | inl less ↦ (let t : nat_lt p (length r.kept.items) ≡ true = grind (arith, nat_tests) in
      rw t (omega (arith, l, less)))
  | inr most ↦ (let t : nat_lt p (length r.kept.items) ≡ false = grind (arith, nat_tests) in
      rw t (omega (arith, most, b)))
]

module _ (r : Rule) (p : ℕ) (ss : List Seat) where
  -- the seats of the removed heads before place q, without the active one
  abbrev pub Left : ℕ → List Seat
  Left q = drop (kept_others r p) (remove (seats_to ss q) p)

  pub left_first : [] ≡ Left (length r.kept.items)
  left_first =
      let k = length r.kept.items in
      let m = length-seats_to ss k in
      elim (cases_lt p k) as (λ _. [] ≡ Left k) [
        | inl less ↦ (let t : nat_lt p k ≡ true = grind (arith, nat_tests) in
            let n = length-remove (seats_to ss k) p (omega (arith, less, m)) in
            rw t (sym (drop_all (k - 1) (remove (seats_to ss k) p) (omega (arith, n, m)))))
        | inr most ↦ (let t : nat_lt p k ≡ false = grind (arith, nat_tests) in
            let n = ap length (remove_past (seats_to ss k) p (omega (arith, most, m))) in
            rw t (sym (drop_all k (remove (seats_to ss k) p) (omega (arith, n, m)))))
      ]

  pub left_more : (q : ℕ) → length r.kept.items ≤ q → ¬ (q ≡ p) → Left q ++ seat ss q ∷ [] ≡ Left (suc q)
  unfolding seats_to
  left_more q l other =
      let m = length-seats_to ss q in
      let f = kept_others r p in
      let x = seat ss q ∷ [] in
      elim (cases_lt p q) as (λ _. Left q ++ x ≡ Left (suc q)) [
        | inl less ↦ (let n = length-remove (seats_to ss q) p (omega (arith, less, m)) in
            let b = kept_below r p q l less in
            sym (ap (drop f) (remove-append_left (seats_to ss q) x p (omega (arith, less, m)))
            ∙ drop-append-le f (remove (seats_to ss q) p) x (omega (arith, n, m, b))))
        | inr most ↦ (let s : q < p = elim (cases_lt q p) as (λ _. q < p) [
          | inl below ↦ below
          | inr above ↦ absurd (other (omega (arith, most, above)))
        ] in
            let n = length-seats_to ss (suc q) in
            let b = kept_most r p q l in
            ap (λ xs. drop f xs ++ x) (remove_past (seats_to ss q) p (omega (arith, m, s)))
            ∙ sym (drop-append-le f (seats_to ss q) x (omega (arith, m, b)))
            ∙ ap (drop f) (sym (remove_past (seats_to ss (suc q)) p (omega (arith, n, s)))))
      ]

  pub left_same : (q : ℕ) → q ≡ p → Left q ≡ Left (suc q)
  unfolding seats_to
  left_same q e =
      let m = length-seats_to ss q in
      let f = kept_others r p in
      let x = seat ss q ∷ [] in
      ap (drop f) (remove_past (seats_to ss q) p (omega (arith, m, e))
      ∙ sym (remove-append_right (seats_to ss q) x q p m (omega (arith, e))
      ∙ ap (λ k. seats_to ss q ++ remove x k) (let d : p - q ≡ 0 = omega (arith, e) in d)
      ∙ append-nil (seats_to ss q)))

  pub left_few : (q : ℕ) → length (Left q) ≤ q
  left_few q =
      let m = length-seats_to ss q in
      let d = length-drop (kept_others r p) (remove (seats_to ss q) p) in
      elim (cases_lt p q) as (λ _. length (Left q) ≤ q) [
        | inl less ↦ (let n = length-remove (seats_to ss q) p (omega (arith, less, m)) in omega (arith, n, m, d))
        | inr most ↦ (let n = ap length (remove_past (seats_to ss q) p (omega (arith, most, m))) in
            omega (arith, n, m, d))
      ]
