-- Atoms in their places.
use Rattle.std.specs.Prelude.{◌≡◌, ℕ, ◌+◌, ◌-◌, ◌<◌, ◌≤◌, ◌%◌, ◌↔◌, List, length, get_or}
use Rattle.std.specs.Prelude.{set, replicate}
use Rattle.std.specs.Prelude.{Result, Ok, Err, OnOk, OnErr, Bool, true, false, IsTrue, cond}
use Rattle.std.specs.Ordering.{eq_by_cmp}
use Rattle.std.specs.Bool.{OnTrue, OnFalse}
use Rattle.std.proofs.Common.{sym, ap, subst, ◌∙◌, arith, inl, inr}
use mathlib.Core.Bool.{true≢false}
use Rattle.std.proofs.lemmas.Bool.{cases_lt, cases_eq}
use Rattle.std.proofs.lemmas.List.{get_or-set_same, get_or-set_other, get_or_default, length-set}
use Rattle.chr_base.specs.Atoms.{atom_cmp}
use Rattle.chr_base.specs.declared.atom.Atom.{Atom}
use Rattle.chr_base.specs.FinBag as bag
use Rattle.chr_base.specs.FinBag.{◌⊕◌, ◌⊖◌, IsWithin}
use Rattle.chr_base.specs.Stores.{Store, count, stores_sum}
use Rattle.chr_base.proofs.Stores.{count_plus, count_minus, same_store}
use Rattle.chr_plans.specs.Actives.{one}
use Rattle.chr_plans.proofs.ActiveAtoms.{one_other, one_count}
use Rattle.chr_shards.specs.declared.placing.Placing.{Placing}
use Rattle.chr_shards.specs.working.Placed.{store_at, place_in, LiesAt, ArePlaced}
use Rattle.chr_shards.proofs.Sums.{only_here, count_set, empty_at}

-- an atom is only in the pool of its place
pub counted_at : (p : Placing) (ss : List Store) (q : Atom) → ArePlaced p ss
    → count (stores_sum ss) q ≡ count (store_at ss (place_in p (length ss) q)) q
counted_at p ss q placed = only_here ss (place_in p (length ss) q) q (λ k some. sym (placed k q some))

-- there is one place where there is one pool
pub only_place : (h n : ℕ) → 0 < n → n ≤ 1 → h % n ≡ 0
only_place h n some few = let e : n ≡ 1 = omega (arith, some, few) in subst (λ m. h % m ≡ 0) (sym e) (omega arith)

-- empty pools are placed
pub placed_empty : (p : Placing) (n : ℕ) → ArePlaced p (replicate n bag.empty)
placed_empty p n k q some = let e = empty_at n k q in absurd (omega (arith, some, e))

-- the pool that is read at a place
pub pool_is : (ss : List Store) (k : ℕ) (s : Store) → k < length ss → s ≡ get_or ss k s → store_at ss k ≡ s
pool_is ss k s within here = get_or_default ss k bag.empty s within ∙ sym here

-- an atom by itself lies at its place
pub one_lies : (p : Placing) (n k : ℕ) (a : Atom) → k ≡ place_in p n a → LiesAt p n k (one a)
one_lies p n k a is q some = elim (one_other a q) as (λ _. place_in p n q ≡ k) [
  | inl same ↦ ap (place_in p n) same ∙ sym is
  | inr none ↦ absurd (omega (arith, none, some))
]

-- A pool s at the place k becomes t, and x is what it takes in or gives out.
module _ (p : Placing) (ss : List Store) (k : ℕ) (s t x : Store) (placed : ArePlaced p ss) (within : k < length ss)
    (here : s ≡ get_or ss k s) where
  at : store_at ss k ≡ s
  at = pool_is ss k s within here

  set_count : (q : Atom) → count (stores_sum (set ss k t)) q + count s q ≡ count (stores_sum ss) q + count t q
  set_count q = subst (λ u. count (stores_sum (set ss k t)) q + count u q ≡ count (stores_sum ss) q + count t q) at
      (count_set ss k t q within)

  -- where all atoms of t have the place k, the pools are placed with t there
  pub placed_still : LiesAt p (length ss) k t → ArePlaced p (set ss k t)
  placed_still lies i q some = elim (cases_eq i k) as (λ _. place_in p (length (set ss k t)) q ≡ i) [
    | inl same ↦ (let e : store_at (set ss k t) i ≡ t =
        ap (store_at (set ss k t)) same ∙ get_or-set_same ss k t bag.empty within in
        ap (λ n. place_in p n q) (length-set ss k t) ∙ lies q (subst (λ s. 0 < count s q) e some) ∙ sym same)
    | inr other ↦ (let e : store_at (set ss k t) i ≡ store_at ss i = get_or-set_other ss k i t bag.empty other in
        ap (λ n. place_in p n q) (length-set ss k t) ∙ placed i q (subst (λ s. 0 < count s q) e some))
  ]

  pub lies_before : LiesAt p (length ss) k s
  lies_before q some = placed k q (subst (λ u. 0 < count u q) (sym at) some)

  pub put_placed : LiesAt p (length ss) k x → ((q : Atom) → count t q ≤ count s q + count x q) → ArePlaced p (set
      ss k t)
  put_placed lies most = placed_still (λ q some. (elim (cases_lt 0 (count x q)) as
      (λ _. place_in p (length ss) q ≡ k) [
        | inl new ↦ lies q new
        | inr none ↦ lies_before q (let m = most q in omega (arith, m, none, some))
      ]))

  pub put_sum : t ≡ s ⊕ x → stores_sum (set ss k t) ≡ stores_sum ss ⊕ x
  put_sum put = same_store _ _ (λ q. (
      let a = set_count q in
      let b : count t q ≡ count (s ⊕ x) q = ap (λ u. count u q) put in
      let c = count_plus s x q in
      let d = count_plus (stores_sum ss) x q in
      omega (arith, a, b, c, d)))

  pub same_sum : t ≡ s → stores_sum (set ss k t) ≡ stores_sum ss
  same_sum same = same_store _ _ (λ q. (
      let a = set_count q in
      let b : count t q ≡ count s q = ap (λ u. count u q) same in
      omega (arith, a, b)))

  pub put_ok : {A E : Type 0} (r : Result A E) → OnOk r (t ≡ s ⊕ x)
      → OnOk r (stores_sum (set ss k t) ≡ stores_sum ss ⊕ x)
  put_ok (Ok a) put = put_sum put
  put_ok (Err e) put = tt

  pub put_err : {A E : Type 0} (r : Result A E) → OnErr r (t ≡ s) → OnErr r (stores_sum (set ss k t) ≡ stores_sum ss)
  put_err (Ok a) same = tt
  put_err (Err e) same = same_sum same

  pub put_most : {A E : Type 0} (r : Result A E) → OnOk r (t ≡ s ⊕ x) → OnErr r (t ≡ s) → (q : Atom)
      → count t q ≤ count s q + count x q
  put_most (Ok a) put same q =
      let b : count t q ≡ count (s ⊕ x) q = ap (λ u. count u q) put in let c = count_plus s x q in omega (arith, b, c)
  put_most (Err e) put same q = let b : count t q ≡ count s q = ap (λ u. count u q) same in omega (arith, b)

  -- what is taken out of the pool is taken out of the store
  pub take_sum : LiesAt p (length ss) k x → ((q : Atom) → count t q ≡ count s q - count x q)
      → stores_sum (set ss k t) ≡ stores_sum ss ⊖ x
  take_sum lies taken = same_store _ _ (λ q. (
      let a = set_count q in
      let b = taken q in
      let c = count_minus (stores_sum ss) x q in
      elim (cases_lt 0 (count x q)) as (λ _. count (stores_sum (set ss k t)) q ≡ count (stores_sum ss ⊖ x) q) [
        | inl some ↦ (let e : count (stores_sum ss) q ≡ count s q =
            counted_at p ss q placed ∙ ap (λ i. count (store_at ss i) q) (lies q some) ∙ ap (λ u. count u q) at in
            omega (arith, a, b, c, e))
        | inr none ↦ omega (arith, a, b, c, none)
      ]))

  pub take_placed : ((q : Atom) → count t q ≡ count s q - count x q) → ArePlaced p (set ss k t)
  take_placed taken = placed_still (λ q some. lies_before q (let e = taken q in omega (arith, e, some)))

-- one atom counts once at most
one_most : (a q : Atom) → count (one a) q ≤ 1
one_most a q = by (eq_by_cmp atom_cmp q a) (one_count a q)
  where
    by : (b : Bool) → count (one a) q ≡ cond b 1 0 → count (one a) q ≤ 1
    by true e = omega (arith, e)
    by false e = omega (arith, e)

one_within : (s : Store) (a q : Atom) → 0 < count s a → count (one a) q ≤ count s q
one_within s a q some = elim (one_other a q) as (λ _. count (one a) q ≤ count s q) [
  | inl same ↦ (let m = one_most a q in let e : count s q ≡ count s a = ap (count s) same in omega (arith, m, e, some))
  | inr none ↦ omega (arith, none)
]

-- one atom less, where it was there
pub one_taken : (b : Bool) (s t : Store) (a : Atom) → IsTrue b ↔ IsWithin (one a) s → OnTrue b (t ≡ s ⊖ one a)
    → OnFalse b (t ≡ s) → (q : Atom) → count t q ≡ count s q - count (one a) q
one_taken true s t a there taken kept q =
    let e : count t q ≡ count (s ⊖ one a) q = ap (λ u. count u q) taken in let f = count_minus s (one a) q in
    omega (arith, e, f)
one_taken false s t a there taken kept q =
    let e : count t q ≡ count s q = ap (λ u. count u q) kept in
    elim (cases_lt 0 (count s a)) as (λ _. count t q ≡ count s q - count (one a) q) [
      | inl some ↦ absurd (true≢false (sym (there.1 (λ z. one_within s a z some))))
      | inr none ↦ elim (one_other a q) as (λ _. count t q ≡ count s q - count (one a) q) [
        | inl same ↦ (let z : count s q ≡ count s a = ap (count s) same in omega (arith, e, z, none))
        | inr other ↦ omega (arith, e, other)
      ]
    ]

-- an atom counts in the store as often as in the pool that is read at its place
pub counted_here : (p : Placing) (ss : List Store) (k : ℕ) (s : Store) (a : Atom) → ArePlaced p ss → k < length ss
    → s ≡ get_or ss k s → k ≡ place_in p (length ss) a → count (stores_sum ss) a ≡ count s a
counted_here p ss k s a placed within here is =
    counted_at p ss a placed ∙ ap (λ i. count (store_at ss i) a) (sym is) ∙ ap (λ u. count u a) (pool_is ss k s
    within here)

-- what holds of the items before a place and of the one at it
pub each_next : (P : Atom → Type 0) (xs : List Atom) (n : ℕ) (a : Atom) → n < length xs → a ≡ get_or xs n a
    → ((k : ℕ) (d : Atom) → k < n → P (get_or xs k d)) → P a → (k : ℕ) (d : Atom) → k < n + 1 → P (get_or xs k d)
each_next P xs n a within here before this k d l = elim (cases_lt k n) as (λ _. P (get_or xs k d)) [
  | inl less ↦ before k d less
  | inr most ↦ (let e : k ≡ n = omega (arith, l, most) in
      subst P (here ∙ sym (get_or_default xs n d a within) ∙ ap (λ i. get_or xs i d) (sym e)) this)
]
