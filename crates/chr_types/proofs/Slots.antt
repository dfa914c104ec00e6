-- There are no more order types than ways to choose, class by class, where a value stands among constants and values
-- before it.
use Rattle.std.specs.List.{zip}
use Rattle.std.specs.Prelude.{◌≡◌, ℕ, suc, zero, ℤ, ◌≤ℤ◌, ◌<ℤ◌, ◌+◌, ◌*◌, ◌<◌, ◌≤◌, ⊤, List, [], ◌∷◌, ◌⊎◌, length, map}
use Rattle.std.specs.Ordering.{int_cmp}
use Rattle.std.proofs.Common.{refl, sym, ap, subst, ◌∙◌, inl, inr, arith}
use Rattle.std.proofs.lemmas.Bool.{cases_lt}
use Rattle.std.proofs.lemmas.Bool.Decides.{eqb_tells}
use Rattle.std.proofs.lemmas.Int.{ints}
use Rattle.std.proofs.lemmas.List.{length-map}
use Rattle.std.proofs.Math.Nat.{suc-mul}
use Rattle.chr_types.specs.OrderTypes.{In, Rises, RisesBy, SameType, TypesDiffer, MoreTypesThan}
use Rattle.chr_types.specs.working.Counting.{most_types}
use Rattle.chr_types.proofs.Bases.{apart}
use Rattle.chr_types.proofs.Unique.{cmp_like}

-- ---- the slot of a value among rising ones

abbrev slot_by : {x y : ℤ} → (x <ℤ y) ⊎ (y ≤ℤ x) → (y <ℤ x) ⊎ (x ≤ℤ y) → ℕ → ℕ
slot_by (inl l) c n = 0
slot_by (inr m) (inl l) n = suc (suc n)
slot_by (inr m) (inr l) n = 1

-- 2 i + 1 for the value at i, and 2 i for one that is less than that and greater than those before it
abbrev slot : List ℤ → ℤ → ℕ
slot [] x = 0
slot (y ∷ ys) x = slot_by (apart x y) (apart y x) (slot ys x)

abbrev added_by : (x y : ℤ) → (x <ℤ y) ⊎ (y ≤ℤ x) → (y <ℤ x) ⊎ (x ≤ℤ y) → List ℤ → List ℤ → List ℤ
added_by x y (inl l) c ys more = x ∷ y ∷ ys
added_by x y (inr m) (inl l) ys more = y ∷ more
added_by x y (inr m) (inr l) ys more = y ∷ ys

-- the values, and x among them
abbrev added : List ℤ → ℤ → List ℤ
added [] x = x ∷ []
added (y ∷ ys) x = added_by x y (apart x y) (apart y x) ys (added ys x)

slot_most : (ys : List ℤ) (x : ℤ) → slot ys x ≤ length ys + length ys
slot_most [] x = omega arith
slot_most (y ∷ ys) x = by (slot_most ys x) (apart x y) (apart y x)
  where
    by : slot ys x ≤ length ys + length ys → (a : (x <ℤ y) ⊎ (y ≤ℤ x)) (b : (y <ℤ x) ⊎ (x ≤ℤ y))
        → slot_by a b (slot ys x) ≤ suc (length ys) + suc (length ys)
    by ih (inl l) b = omega arith
    by ih (inr m) (inl l) = omega (arith, ih)
    by ih (inr m) (inr l) = omega arith

one_longer : (ys : List ℤ) (x : ℤ) (j : ℕ) → slot ys x ≡ j + j → length (added ys x) ≡ suc (length ys)
one_longer [] x j e = refl
one_longer (y ∷ ys) x j e = by (one_longer ys x) j (apart x y) (apart y x) e
  where
    by : ((i : ℕ) → slot ys x ≡ i + i → length (added ys x) ≡ suc (length ys)) → (j : ℕ) (a : (x <ℤ y) ⊎ (y ≤ℤ x))
        (b : (y <ℤ x) ⊎ (x ≤ℤ y)) → slot_by a b (slot ys x) ≡ j + j
        → length (added_by x y a b ys (added ys x)) ≡ suc (suc (length ys))
    by ih j (inl l) b e = refl
    by ih zero (inr m) (inl l) e = absurd (omega (arith, e))
    by ih (suc i) (inr m) (inl l) e = ap suc (ih i (omega (arith, e)))
    by ih j (inr m) (inr l) e = absurd (omega (arith, e))

as_long : (ys : List ℤ) (x : ℤ) (j : ℕ) → slot ys x ≡ suc (j + j) → length (added ys x) ≡ length ys
as_long [] x j e = absurd (omega (arith, e))
as_long (y ∷ ys) x j e = by (as_long ys x) j (apart x y) (apart y x) e
  where
    by : ((i : ℕ) → slot ys x ≡ suc (i + i) → length (added ys x) ≡ length ys) → (j : ℕ) (a : (x <ℤ y) ⊎ (y ≤ℤ x))
        (b : (y <ℤ x) ⊎ (x ≤ℤ y)) → slot_by a b (slot ys x) ≡ suc (j + j)
        → length (added_by x y a b ys (added ys x)) ≡ suc (length ys)
    by ih j (inl l) b e = absurd (omega (arith, e))
    by ih zero (inr m) (inl l) e = absurd (omega (arith, e))
    by ih (suc i) (inr m) (inl l) e = ap suc (ih i (omega (arith, e)))
    by ih j (inr m) (inr l) e = refl

-- ---- lists that choose the same slots have one type

-- behind the values ps the list vs chooses the slots that us chooses behind qs
abbrev ChooseAlike : List ℤ → List ℤ → List ℤ → List ℤ → Type 0
ChooseAlike ps [] qs [] = ⊤
ChooseAlike ps [] qs (u ∷ us) = ⊥
ChooseAlike ps (v ∷ vs) qs [] = ⊥
ChooseAlike ps (v ∷ vs) qs (u ∷ us) = (slot ps v ≡ slot qs u) × ChooseAlike (added ps v) vs (added qs u) us

-- less on both sides
abbrev IsLess : ℤ × ℤ → ℤ × ℤ → Type 0
IsLess p q = (p.0 <ℤ q.0) × (p.1 <ℤ q.1)

abbrev Pairs : Type 0
Pairs = List (ℤ × ℤ)

abbrev lefts : Pairs → List ℤ
lefts = map (λ p. p.0)

abbrev rights : Pairs → List ℤ
rights = map (λ p. p.1)

-- rising pairs, those of ps and (x, u), with these on the left and on the right
abbrev Adds : Pairs → ℤ → ℤ → List ℤ → List ℤ → Type 0
Adds ps x u ls rs = (ns : Pairs) × RisesBy IsLess ns × (lefts ns ≡ ls) × (rights ns ≡ rs) × In (x, u) ns
    × ((q : ℤ × ℤ) → In q ps → In q ns) × ((q : ℤ × ℤ) → In q ns → In q ps ⊎ (q ≡ (x, u)))

pair_added : (ps : Pairs) (x u : ℤ) → RisesBy IsLess ps → slot (lefts ps) x ≡ slot (rights ps) u
    → Adds ps x u (added (lefts ps) x) (added (rights ps) u)
pair_added [] x u r e = (
  (x, u) ∷ [],
  (λ q i. elim i [ ], tt),
  refl,
  refl,
  inl refl,
  λ q i. elim i [ ],
  λ q i. elim i as (λ _. In q [] ⊎ (q ≡ (x, u))) [ inl f ↦ inr f | inr n ↦ absurd n ],
)
pair_added (p ∷ ps) x u r e = by (pair_added ps x u r.1) (apart x p.0) (apart p.0 x) (apart u p.1) (apart p.1 u) e
  where
    first : x <ℤ p.0 → u <ℤ p.1 → Adds (p ∷ ps) x u (x ∷ p.0 ∷ lefts ps) (u ∷ p.1 ∷ rights ps)
    first l m = (
      (x, u) ∷ p ∷ ps,
      (
        λ q i. elim i as (λ _. IsLess (x, u) q) [
          | inl f ↦ subst (IsLess (x, u)) (sym f) (l, m)
          | inr j ↦ (let k = r.0 q j in let k0 = k.0 in let k1 = k.1 in
              (omega (arith, ints, k0, l), omega (arith, ints, k1, m)))
        ],
        r,
      ),
      refl,
      refl,
      inl refl,
      λ q i. inr i,
      λ q i. elim i as (λ _. In q (p ∷ ps) ⊎ (q ≡ (x, u))) [ inl f ↦ inr f | inr j ↦ inl j ],
    )

    later : p.0 <ℤ x → p.1 <ℤ u → Adds ps x u (added (lefts ps) x) (added (rights ps) u)
        → Adds (p ∷ ps) x u (p.0 ∷ added (lefts ps) x) (p.1 ∷ added (rights ps) u)
    later l m w = (
      p ∷ w.0,
      (λ q i. elim (w.6 q i) as (λ _. IsLess p q) [ inl j ↦ r.0 q j | inr f ↦ subst (IsLess p) (sym f) (l, m) ], w.1),
      ap (λ ys. p.0 ∷ ys) w.2,
      ap (λ ys. p.1 ∷ ys) w.3,
      inr w.4,
      λ q i. elim i as (λ _. (q ≡ p) ⊎ In q w.0) [ inl f ↦ inl f | inr j ↦ inr (w.5 q j) ],
      λ q i. elim i as (λ _. In q (p ∷ ps) ⊎ (q ≡ (x, u))) [
        | inl f ↦ inl (inl f)
        | inr j ↦ elim (w.6 q j) as (λ _. In q (p ∷ ps) ⊎ (q ≡ (x, u))) [ inl k ↦ inl (inr k) | inr f ↦ inr f ]
      ],
    )

    there : x ≡ p.0 → u ≡ p.1 → Adds (p ∷ ps) x u (p.0 ∷ lefts ps) (p.1 ∷ rights ps)
    there f g = (p ∷ ps, r, refl, refl, inl (λ t. (f t, g t)), λ q i. i, λ q i. inl i)

    by : (slot (lefts ps) x ≡ slot (rights ps) u → Adds ps x u (added (lefts ps) x) (added (rights ps) u))
        → (a : (x <ℤ p.0) ⊎ (p.0 ≤ℤ x)) (b : (p.0 <ℤ x) ⊎ (x ≤ℤ p.0)) (c : (u <ℤ p.1) ⊎ (p.1 ≤ℤ u))
        (d : (p.1 <ℤ u) ⊎ (u ≤ℤ p.1))
        → slot_by a b (slot (lefts ps) x) ≡ slot_by c d (slot (rights ps) u)
        → Adds (p ∷ ps) x u (added_by x p.0 a b (lefts ps) (added (lefts ps) x))
        (added_by u p.1 c d (rights ps) (added (rights ps) u))
    by ih (inl l) b (inl m) d f = first l m
    by ih (inl l) b (inr m) (inl n) f = absurd (omega (arith, f))
    by ih (inl l) b (inr m) (inr n) f = absurd (omega (arith, f))
    by ih (inr k) (inl l) (inl m) d f = absurd (omega (arith, f))
    by ih (inr k) (inl l) (inr m) (inl n) f = later l n (ih (omega (arith, f)))
    by ih (inr k) (inl l) (inr m) (inr n) f = absurd (omega (arith, f))
    by ih (inr k) (inr l) (inl m) d f = absurd (omega (arith, f))
    by ih (inr k) (inr l) (inr m) (inl n) f = absurd (omega (arith, f))
    by ih (inr k) (inr l) (inr m) (inr n) f = there (omega (arith, ints, k, l)) (omega (arith, ints, m, n))

-- the pairs of both lists and what is paired before them stand in rising pairs
pairs_rise : (vs us : List ℤ) (ps : Pairs) → RisesBy IsLess ps → ChooseAlike (lefts ps) vs (rights ps) us
    → (ns : Pairs) × RisesBy IsLess ns × ((q : ℤ × ℤ) → In q ps → In q ns) × ((q : ℤ × ℤ) → In q (zip vs us) → In q ns)
    × (length vs ≡ length us)
pairs_rise [] [] ps r c = (ps, r, λ q i. i, λ q i. elim i [ ], refl)
pairs_rise [] (u ∷ us) ps r c = absurd c
pairs_rise (v ∷ vs) [] ps r c = absurd c
pairs_rise (v ∷ vs) (u ∷ us) ps r c =
    let w = pair_added ps v u r c.0 in
    let a = subst (λ ls. ChooseAlike ls vs (added (rights ps) u) us) (sym w.2) c.1 in
    let b = subst (λ rs. ChooseAlike (lefts w.0) vs rs us) (sym w.3) a in
    let n = pairs_rise vs us w.0 w.1 b in (
      n.0,
      n.1,
      λ q i. n.2 q (w.5 q i),
      λ q i. elim i as (λ _. In q n.0) [ inl f ↦ n.2 q (subst (λ z. In z w.0) (sym f) w.4) | inr j ↦ n.3 q j ],
      ap suc n.4,
    )

members_ordered : (ps : Pairs) → RisesBy IsLess ps → (p q : ℤ × ℤ) → In p ps → In q ps → (p ≡ q)
    ⊎ (IsLess p q ⊎ IsLess q p)
members_ordered [] r p q i j = elim i [ ]
members_ordered (n ∷ ps) r p q (inl e) (inl f) = inl (e ∙ sym f)
members_ordered (n ∷ ps) r p q (inl e) (inr j) = inr (inl (subst (λ z. IsLess z q) (sym e) (r.0 q j)))
members_ordered (n ∷ ps) r p q (inr i) (inl f) = inr (inr (subst (λ z. IsLess z p) (sym f) (r.0 p i)))
members_ordered (n ∷ ps) r p q (inr i) (inr j) = members_ordered ps r.1 p q i j

compared_alike : (ps : Pairs) → RisesBy IsLess ps → (p q : ℤ × ℤ) → In p ps → In q ps → int_cmp p.0 q.0
    ≡ int_cmp p.1 q.1
compared_alike ps r p q i j = elim (members_ordered ps r p q i j) as (λ _. int_cmp p.0 q.0 ≡ int_cmp p.1 q.1) [
  | inl e ↦ (λ t. int_cmp (e t).0 q.0) ∙ same ∙ sym (λ t. int_cmp (e t).1 q.1)
  | inr o ↦ elim o as (λ _. int_cmp p.0 q.0 ≡ int_cmp p.1 q.1) [
    | inl l ↦ (let a = l.0 in let b = l.1 in cmp_like p.1 q.1 p.0 q.0 (λ _. a) (λ f. absurd (omega (arith, ints, b, f)))
        (λ f. absurd (omega (arith, ints, b, f))))
    | inr l ↦ (let a = l.0 in let b = l.1 in cmp_like p.1 q.1 p.0 q.0 (λ f. absurd (omega (arith, ints, b, f)))
        (λ f. absurd (omega (arith, ints, b, f))) (λ _. a))
  ]
]
  where
    same : int_cmp q.0 q.0 ≡ int_cmp q.1 q.1
    same = cmp_like q.1 q.1 q.0 q.0 (λ f. absurd (omega (arith, ints, f))) (λ _. refl)
        (λ f. absurd (omega (arith, ints, f)))

twice : List ℤ → Pairs
twice = map (λ c. (c, c))

twice_lefts : (cs : List ℤ) → lefts (twice cs) ≡ cs
unfolding twice
twice_lefts [] = refl
twice_lefts (c ∷ cs) = ap (λ ys. c ∷ ys) (twice_lefts cs)

twice_rights : (cs : List ℤ) → rights (twice cs) ≡ cs
unfolding twice
twice_rights [] = refl
twice_rights (c ∷ cs) = ap (λ ys. c ∷ ys) (twice_rights cs)

in_twice : (c : ℤ) (cs : List ℤ) → In c cs → In (c, c) (twice cs)
unfolding twice
in_twice c [] i = i
in_twice c (d ∷ cs) (inl e) = inl (λ t. (e t, e t))
in_twice c (d ∷ cs) (inr i) = inr (in_twice c cs i)

of_twice : (q : ℤ × ℤ) (cs : List ℤ) → In q (twice cs) → In q.0 cs × (q.0 ≡ q.1)
unfolding twice
of_twice q [] i = elim i [ ]
of_twice q (c ∷ cs) (inl e) = (inl (λ t. (e t).0), (λ t. (e t).0) ∙ sym (λ t. (e t).1))
of_twice q (c ∷ cs) (inr i) = let w = of_twice q cs i in (inr w.0, w.1)

twice_rise : (cs : List ℤ) → Rises cs → RisesBy IsLess (twice cs)
unfolding twice
twice_rise [] r = tt
twice_rise (c ∷ cs) r = (
  λ q i. (let w = of_twice q cs i in let l = r.0 q.0 w.0 in let e = w.1 in (l, omega (arith, ints, l, e))),
  twice_rise cs r.1,
)

alike_same_type : (cs vs us : List ℤ) → Rises cs → ChooseAlike cs vs cs us → SameType cs vs us
unfolding twice
alike_same_type cs vs us rises c =
    let a = subst (λ ls. ChooseAlike ls vs cs us) (sym (twice_lefts cs)) c in
    let b = subst (λ rs. ChooseAlike (lefts (twice cs)) vs rs us) (sym (twice_rights cs)) a in
    let n = pairs_rise vs us (twice cs) (twice_rise cs rises) b in
    record {
      count = n.4;
      classes = λ p q i j. compared_alike n.0 n.1 p q (n.3 p i) (n.3 q j);
      against = λ p c i j. compared_alike n.0 n.1 p (c, c) (n.3 p i) (n.2 (c, c) (in_twice c cs j));
    }

-- ---- lists that choose differently are few

-- values that are there, and a list that goes on behind them
abbrev Begun : Type 0
Begun = List ℤ × List ℤ

abbrev ChooseApart : List Begun → Type 0
ChooseApart [] = ⊤
ChooseApart (b ∷ bs) = ((d : Begun) → In d bs → ChooseAlike b.0 b.1 d.0 d.1 → ⊥) × ChooseApart bs

abbrev AreBegun : ℕ → ℕ → List Begun → Type 0
AreBegun n d bs = (b : Begun) → In b bs → (length b.0 ≡ d) × (length b.1 ≡ n)

same_or_not : (j k : ℕ) → (j ≡ k) ⊎ (j ≡ k → ⊥)
same_or_not j k = elim (eqb_tells j k) as (λ _. (j ≡ k) ⊎ (j ≡ k → ⊥)) [ inl t ↦ inl t.1 | inr t ↦ inr t.1 ]

abbrev taken_by : {j k : ℕ} → (j ≡ k) ⊎ (j ≡ k → ⊥) → Begun → List Begun → List Begun
taken_by (inl e) b bs = b ∷ bs
taken_by (inr n) b bs = bs

-- the lists that choose the slot k first, one value further
abbrev taken : ℕ → List Begun → List Begun
taken k [] = []
taken k ((ps, []) ∷ bs) = taken k bs
taken k ((ps, v ∷ vs) ∷ bs) = taken_by (same_or_not (slot ps v) k) (added ps v, vs) (taken k bs)

-- the list from which a taken one comes
abbrev Comes : ℕ → List Begun → Begun → Type 0
Comes k bs b = (ps : List ℤ) × (v : ℤ) × (vs : List ℤ) × In (ps, v ∷ vs) bs × (slot ps v ≡ k) × (b ≡ (added ps v, vs))

comes_later : (k : ℕ) (c : Begun) (bs : List Begun) (b : Begun) → Comes k bs b → Comes k (c ∷ bs) b
comes_later k c bs b w = (w.0, w.1, w.2, inr w.3, w.4, w.5)

comes : (k : ℕ) (bs : List Begun) (b : Begun) → In b (taken k bs) → Comes k bs b
comes k [] b i = elim i [ ]
comes k ((ps, []) ∷ bs) b i = comes_later k (ps, []) bs b (comes k bs b i)
comes k ((ps, v ∷ vs) ∷ bs) b i = by (comes k bs b) (same_or_not (slot ps v) k) i
  where
    by : (In b (taken k bs) → Comes k bs b) → (s : (slot ps v ≡ k) ⊎ (slot ps v ≡ k → ⊥))
        → In b (taken_by s (added ps v, vs) (taken k bs)) → Comes k ((ps, v ∷ vs) ∷ bs) b
    by ih (inl e) (inl f) = (ps, v, vs, inl refl, e, f)
    by ih (inl e) (inr j) = comes_later k (ps, v ∷ vs) bs b (ih j)
    by ih (inr n) j = comes_later k (ps, v ∷ vs) bs b (ih j)

taken_apart : (k : ℕ) (bs : List Begun) → ChooseApart bs → ChooseApart (taken k bs)
taken_apart k [] a = tt
taken_apart k ((ps, []) ∷ bs) a = taken_apart k bs a.1
taken_apart k ((ps, v ∷ vs) ∷ bs) a = by (taken_apart k bs a.1) (same_or_not (slot ps v) k)
  where
    by : ChooseApart (taken k bs) → (s : (slot ps v ≡ k) ⊎ (slot ps v ≡ k → ⊥))
        → ChooseApart (taken_by s (added ps v, vs) (taken k bs))
    by ih (inl e) = (
      λ d i same. (let w = comes k bs d i in
          let alike = subst (λ (z : Begun). ChooseAlike (added ps v) vs z.0 z.1) w.5 same in
          a.0 (w.0, w.1 ∷ w.2) w.3 (e ∙ sym w.4, alike)),
      ih,
    )
    by ih (inr n) = ih

taken_at : (n d j : ℕ) (bs : List Begun) → AreBegun (suc n) d bs → AreBegun n (suc d) (taken (j + j) bs)
taken_at n d j bs are b i =
    let w = comes (j + j) bs b i in
    let l = are (w.0, w.1 ∷ w.2) w.3 in
    let l0 = l.0 in
    let l1 = l.1 in
    let g = one_longer w.0 w.1 j w.4 in
    subst (λ (z : Begun). (length z.0 ≡ suc d) × (length z.1 ≡ n)) (sym w.5) (omega (arith, g, l0), omega (arith, l1))

taken_on : (n d j : ℕ) (bs : List Begun) → AreBegun (suc n) d bs → AreBegun n d (taken (suc (j + j)) bs)
taken_on n d j bs are b i =
    let w = comes (suc (j + j)) bs b i in
    let l = are (w.0, w.1 ∷ w.2) w.3 in
    let l0 = l.0 in
    let l1 = l.1 in
    let g = as_long w.0 w.1 j w.4 in
    subst (λ (z : Begun). (length z.0 ≡ d) × (length z.1 ≡ n)) (sym w.5) (omega (arith, g, l0), omega (arith, l1))

-- how many lists choose one of the slots up to 2 d, slot by slot
abbrev taken_up_to : ℕ → List Begun → ℕ
taken_up_to zero bs = length (taken 0 bs)
taken_up_to (suc d) bs = taken_up_to d bs + length (taken (suc (d + d)) bs) + length (taken (suc d + suc d) bs)

none_taken : (d : ℕ) → taken_up_to d [] ≡ 0
none_taken zero = refl
none_taken (suc d) = let ih = none_taken d in omega (arith, ih)

-- of a list of beginnings with one more in front, one more is taken at the slot k where that one chooses it
abbrev TakesWhere : ℕ → List ℤ → ℤ → List ℤ → List Begun → Type 0
TakesWhere k ps v vs bs = (slot ps v ≡ k → length (taken k ((ps, v ∷ vs) ∷ bs)) ≡ suc (length (taken k bs)))
    × ((slot ps v ≡ k → ⊥) → length (taken k ((ps, v ∷ vs) ∷ bs)) ≡ length (taken k bs))

takes_where : (k : ℕ) (ps : List ℤ) (v : ℤ) (vs : List ℤ) (bs : List Begun) → TakesWhere k ps v vs bs
takes_where k ps v vs bs = by (same_or_not (slot ps v) k)
  where
    by : (s : (slot ps v ≡ k) ⊎ (slot ps v ≡ k → ⊥)) → (slot ps v ≡ k
        → length (taken_by s (added ps v, vs) (taken k bs)) ≡ suc (length (taken k bs)))
        × ((slot ps v ≡ k → ⊥) → length (taken_by s (added ps v, vs) (taken k bs)) ≡ length (taken k bs))
    by (inl e) = (λ _. refl, λ n. absurd (n e))
    by (inr n) = (λ e. absurd (n e), λ _. refl)

-- of a list of beginnings with one more in front, one more is taken up to 2 d where that one chooses such a slot
abbrev TakesOne : ℕ → List ℤ → ℤ → List ℤ → List Begun → Type 0
TakesOne d ps v vs bs = (slot ps v ≤ d + d → taken_up_to d ((ps, v ∷ vs) ∷ bs) ≡ suc (taken_up_to d bs))
    × (d + d < slot ps v → taken_up_to d ((ps, v ∷ vs) ∷ bs) ≡ taken_up_to d bs)

-- a beginning is taken at its slot and nowhere else
one_taken : (d : ℕ) (ps : List ℤ) (v : ℤ) (vs : List ℤ) (bs : List Begun) → TakesOne d ps v vs bs
one_taken zero ps v vs bs =
    let at = takes_where 0 ps v vs bs in
    (λ l. at.0 (omega (arith, l)), λ l. at.1 (λ e. omega (arith, l, e)))
one_taken (suc d) ps v vs bs = by (one_taken d ps v vs bs) (same_or_not (slot ps v) (suc (d + d)))
    (same_or_not (slot ps v) (suc d + suc d))
    (takes_where (suc (d + d)) ps v vs bs) (takes_where (suc d + suc d) ps v vs bs)
  where
    below : (slot ps v ≡ suc (d + d) → ⊥) → (slot ps v ≡ suc d + suc d → ⊥) → slot ps v ≤ suc d + suc d
        → slot ps v ≤ d + d
    below n m l = elim (cases_lt (d + d) (slot ps v)) as (λ _. slot ps v ≤ d + d) [
      | inr h ↦ h
      | inl h ↦ elim (cases_lt (suc (d + d)) (slot ps v)) as (λ _. slot ps v ≤ d + d) [
        | inl k ↦ absurd (m (omega (arith, l, k)))
        | inr k ↦ absurd (n (omega (arith, h, k)))
      ]
    ]

    by : TakesOne d ps v vs bs → (slot ps v ≡ suc (d + d)) ⊎ (slot ps v ≡ suc (d + d) → ⊥) → (slot ps v ≡ suc d + suc d)
        ⊎ (slot ps v ≡ suc d + suc d → ⊥)
        → TakesWhere (suc (d + d)) ps v vs bs → TakesWhere (suc d + suc d) ps v vs bs → TakesOne (suc d) ps v vs bs
    by ih (inl e) f odd even =
        let a = ih.1 (omega (arith, e)) in
        let b = odd.0 e in
        let c = even.1 (λ g. omega (arith, e, g)) in
        (λ _. omega (arith, a, b, c), λ l. absurd (omega (arith, l, e)))
    by ih (inr n) (inl e) odd even =
        let a = ih.1 (omega (arith, e)) in
        let b = odd.1 n in
        let c = even.0 e in
        (λ _. omega (arith, a, b, c), λ l. absurd (omega (arith, l, e)))
    by ih (inr n) (inr m) odd even =
        let b = odd.1 n in
        let c = even.1 m in (
          λ l. (let a = ih.0 (below n m l) in omega (arith, a, b, c)),
          λ l. (let a = ih.1 (omega (arith, l)) in omega (arith, a, b, c)),
        )

all_taken : (n d : ℕ) (bs : List Begun) → AreBegun (suc n) d bs → length bs ≡ taken_up_to d bs
all_taken n d [] are = sym (none_taken d)
all_taken n d ((ps, []) ∷ bs) are = absurd (let l = (are (ps, []) (inl refl)).1 in omega (arith, l))
all_taken n d ((ps, v ∷ vs) ∷ bs) are =
    let ih = all_taken n d bs (λ b i. are b (inr i)) in
    let e = (are (ps, v ∷ vs) (inl refl)).0 in
    let l = slot_most ps v in
    let t = (one_taken d ps v vs bs).0 (omega (arith, l, e)) in
    omega (arith, ih, t)

-- bounds for each slot make one for all
within_slots : (d x y : ℕ) (bs : List Begun) → ((j : ℕ) → length (taken (suc (j + j)) bs) ≤ x)
    → ((j : ℕ) → length (taken (j + j) bs) ≤ y)
    → taken_up_to d bs ≤ d * x + suc d * y
within_slots zero x y bs odd even = let a = even 0 in let b = suc-mul 0 y in omega (arith, a, b)
within_slots (suc d) x y bs odd even =
    let ih = within_slots d x y bs odd even in
    let a = odd d in
    let b = even (suc d) in
    let s = suc-mul d x in
    let t = suc-mul (suc d) y in
    omega (arith, ih, a, b, s, t)

begun_few : (n d : ℕ) (bs : List Begun) → AreBegun n d bs → ChooseApart bs → length bs ≤ most_types n d
begun_few zero d [] are a = omega arith
begun_few zero d (b ∷ []) are a = omega arith
begun_few zero d ((ps, []) ∷ (qs, []) ∷ bs) are a = absurd (a.0 (qs, []) (inl refl) tt)
begun_few zero d ((ps, v ∷ vs) ∷ b ∷ bs) are a = absurd (let l = (are (ps, v ∷ vs) (inl refl)).1 in omega (arith, l))
begun_few zero d (b ∷ (qs, u ∷ us) ∷ bs) are a = absurd
    (let l = (are (qs, u ∷ us) (inr (inl refl))).1 in omega (arith, l))
begun_few (suc n) d bs are a =
    let all = all_taken n d bs are in
    let few = within_slots d (most_types n d) (most_types n (suc d)) bs
    (λ j. begun_few n d (taken (suc (j + j)) bs) (taken_on n d j bs are) (taken_apart (suc (j + j)) bs a))
    (λ j. begun_few n (suc d) (taken (j + j) bs) (taken_at n d j bs are) (taken_apart (j + j) bs a)) in
    omega (arith, all, few)

-- ---- order types

begin : List ℤ → List (List ℤ) → List Begun
begin cs = map (λ vs. (cs, vs))

in_begin : (cs : List ℤ) (b : Begun) (lists : List (List ℤ)) → In b (begin cs lists) → (vs : List ℤ) × In vs lists
    × (b ≡ (cs, vs))
unfolding begin
in_begin cs b [] i = elim i [ ]
in_begin cs b (vs ∷ lists) (inl e) = (vs, inl refl, e)
in_begin cs b (vs ∷ lists) (inr i) = let w = in_begin cs b lists i in (w.0, inr w.1, w.2)

begin_apart : (cs : List ℤ) (lists : List (List ℤ)) → Rises cs → TypesDiffer cs lists → ChooseApart (begin cs lists)
unfolding begin
begin_apart cs [] rises differ = tt
begin_apart cs (vs ∷ lists) rises differ = (
  λ d i same. (let w = in_begin cs d lists i in
      differ.0 w.0 w.1 (alike_same_type cs vs w.0 rises (subst (λ (z : Begun). ChooseAlike cs vs z.0 z.1) w.2 same))),
  begin_apart cs lists rises differ.1,
)

-- no more order types than choices of slots
pub within_most : (limit n : ℕ) (cs : List ℤ) → Rises cs → most_types n (length cs) ≤ limit → MoreTypesThan limit n cs
    → ⊥
unfolding begin
within_most limit n cs rises few more =
    let are : AreBegun n (length cs) (begin cs more.lists) = λ b i. (let w = in_begin cs b more.lists i in
    let e = (more.values w.0 w.1).0 in
    subst (λ (z : Begun). (length z.0 ≡ length cs) × (length z.1 ≡ n)) (sym w.2) (refl, e)) in
    let l = begun_few n (length cs) (begin cs more.lists) are (begin_apart cs more.lists rises more.differ) in
    let m = length-map {B = Begun} more.lists (λ (vs : List ℤ). (cs, vs)) in
    let k = more.more in
    omega (arith, l, m, k, few)
