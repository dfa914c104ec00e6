-- The lists of blocks are all of them, and rise.
use Rattle.std.specs.Prelude.{◌≡◌, ℕ, zero, suc, ℤ, pos, ◌<ℤ◌, ◌+◌, ◌*◌, ◌^◌, ◌<◌, ◌≤◌, ◌⊎◌, ◌↔◌, Bool, true, false}
use Rattle.std.specs.Prelude.{cond, int_lt, List, [], ◌∷◌, ◌++◌, length, get_or, drop}
use Rattle.std.proofs.Common.{refl, sym, ap, subst, ◌∙◌, inl, inr, arith, append_assoc, append-nil}
use Rattle.std.proofs.lemmas.Int.{ints}
use Rattle.std.proofs.lemmas.List.{length-append}
use Rattle.std.proofs.Math.Nat.{pow-suc}
use Rattle.std.proofs.Math.Pow.{pow_mono}
use Rattle.std.specs.List.{flat_map}
use Rattle.std.specs.Ordering.{int_cmp, int_eq}
use Rattle.std.specs.Cmp.Lexicographic.{slice_cmp}
use Rattle.chr_types.specs.OrderTypes.{In, Rises}
use Rattle.chr_types.proofs.Bases.{lt_true, lt_false}
use Rattle.chr_types.proofs.Holes.{same_yes, yes_same, same_no}
use Rattle.chr_types.proofs.RisingLists.{ListsRise}
use Rattle.chr_types.proofs.Enumeration.{flat_rises, lex}
use Rattle.chr_types.proofs.Members.{in_flat_map, flat_map_in}
use Rattle.chr_confluence.specs.SortLists.{AreBlocks}
use Rattle.chr_sorting.specs.SortedCaseLists.{AreFirstNumbers}
use Rattle.chr_sorting.specs.working.Blocks.{inserted, going_on, lists_behind}

-- ---- a value among rising ones

by_order : (P : Type 0) (k v : ℤ) → (int_lt k v ≡ true → P) → (int_lt k v ≡ false → int_lt v k ≡ true → P)
    → (int_lt k v ≡ false → int_lt v k ≡ false → k ≡ v → P) → P
by_order P k v a b c = go (int_lt k v) (int_lt v k) refl refl
  where
    go : (s t : Bool) → int_lt k v ≡ s → int_lt v k ≡ t → P
    go true t e f = a e
    go false true e f = b e f
    go false false e f = c e f (let l = lt_false k v e in let m = lt_false v k f in omega (arith, ints, l, m))

at_lesser : (v k : ℤ) (ks : List ℤ) → int_lt k v ≡ true → inserted v (k ∷ ks) ≡ k ∷ inserted v ks
at_lesser v k ks e = ap (λ b. cond b (k ∷ inserted v ks) (cond (int_lt v k) (v ∷ k ∷ ks) (k ∷ ks))) e

at_greater : (v k : ℤ) (ks : List ℤ) → int_lt k v ≡ false → int_lt v k ≡ true → inserted v (k ∷ ks) ≡ v ∷ k ∷ ks
at_greater v k ks e f = λ i. cond (e i) (k ∷ inserted v ks) (cond (f i) (v ∷ k ∷ ks) (k ∷ ks))

at_same : (v k : ℤ) (ks : List ℤ) → int_lt k v ≡ false → int_lt v k ≡ false → inserted v (k ∷ ks) ≡ k ∷ ks
at_same v k ks e f = λ i. cond (e i) (k ∷ inserted v ks) (cond (f i) (v ∷ k ∷ ks) (k ∷ ks))

pub in_inserted : (v u : ℤ) (ks : List ℤ) → In u (inserted v ks) → (u ≡ v) ⊎ In u ks
in_inserted v u [] i = i
in_inserted v u (k ∷ ks) i = by_order ((u ≡ v) ⊎ In u (k ∷ ks)) k v
    (λ e. elim (subst (In u) (at_lesser v k ks e) i) as (λ _. (u ≡ v) ⊎ In u (k ∷ ks)) [
      | inl q ↦ inr (inl q)
      | inr j ↦ elim (in_inserted v u ks j) as (λ _. (u ≡ v) ⊎ In u (k ∷ ks)) [ inl q ↦ inl q | inr m ↦ inr (inr m) ]
    ])
    (λ e f. subst (In u) (at_greater v k ks e f) i)
    (λ e f _. inr (subst (In u) (at_same v k ks e f) i))

pub inserted_in : (v u : ℤ) (ks : List ℤ) → (u ≡ v) ⊎ In u ks → In u (inserted v ks)
inserted_in v u [] i = i
inserted_in v u (k ∷ ks) i = by_order (In u (inserted v (k ∷ ks))) k v
    (λ e. subst (In u) (sym (at_lesser v k ks e)) (elim i as (λ _. In u (k ∷ inserted v ks)) [
      | inl q ↦ inr (inserted_in v u ks (inl q))
      | inr j ↦ elim j as (λ _. In u (k ∷ inserted v ks)) [ inl q ↦ inl q | inr m ↦ inr (inserted_in v u ks (inr m)) ]
    ]))
    (λ e f. subst (In u) (sym (at_greater v k ks e f)) i)
    (λ e f same. subst (In u) (sym (at_same v k ks e f))
    (elim i as (λ _. In u (k ∷ ks)) [ inl q ↦ inl (q ∙ sym same) | inr j ↦ j ]))

pub inserted_rises : (v : ℤ) (ks : List ℤ) → Rises ks → Rises (inserted v ks)
inserted_rises v [] r = (λ y i. absurd i, tt)
inserted_rises v (k ∷ ks) r = by_order (Rises (inserted v (k ∷ ks))) k v
    (λ e. subst Rises (sym (at_lesser v k ks e)) (
      λ y i. elim (in_inserted v y ks i) as (λ _. k <ℤ y)
          [ inl q ↦ subst (λ z. k <ℤ z) (sym q) (lt_true k v e) | inr j ↦ r.0 y j ],
      inserted_rises v ks r.1,
    ))
    (λ e f. subst Rises (sym (at_greater v k ks e f)) (
      λ y i. (let l = lt_true v k f in elim i as (λ _. v <ℤ y)
          [ inl q ↦ subst (λ z. v <ℤ z) (sym q) l | inr j ↦ (let m = r.0 y j in omega (arith, ints, l, m)) ]),
      r,
    ))
    (λ e f _. subst Rises (sym (at_same v k ks e f)) r)

-- ---- joined lists

pub flat_some : (f : ℤ → List (List ℤ)) (z : ℤ) (zs : List ℤ) → In z zs → length (f z) ≤ length (flat_map f zs)
flat_some f z [] i = absurd i
flat_some f z (y ∷ zs) (inl e) =
    let a = length-append (f y) (flat_map f zs) in
    let b : length (f z) ≡ length (f y) = ap (λ x. length (f x)) e in
    omega (arith, a, b)
flat_some f z (y ∷ zs) (inr i) =
    let a = length-append (f y) (flat_map f zs) in
    let rest = flat_some f z zs i in
    omega (arith, a, rest)

-- ---- order

-- what is told of both ways on is told of the one that is taken
by_next : (P : List (List ℤ) → Type 0) (b : Bool) (xs ys : List (List ℤ)) → P xs → P ys → P (cond b xs ys)
by_next P true xs ys x y = x
by_next P false xs ys x y = y

-- each begins with p
begins : (k : ℕ) (ks ns p r : List ℤ) → In r (lists_behind k ks ns p) → (q : List ℤ) × (r ≡ p ++ q)
begins zero ks ns p r i = elim i as (λ _. (q : List ℤ) × (r ≡ p ++ q))
    [ inl e ↦ ([], e ∙ sym (append-nil p)) | inr n ↦ absurd n ]
begins (suc k) ks ns p r i =
    let m = in_flat_map r (going_on (lists_behind k) ks ns p) (inserted (get_or ns 0 (pos 0)) ks) i in
    let z = m.0 in
    let next = get_or ns 0 (pos 0) in
    let w = by_next (λ xs. In r xs → (q : List ℤ) × (r ≡ (p ++ z ∷ []) ++ q)) (int_eq z next)
    (lists_behind k (inserted next ks) (drop 1 ns) (p ++ z ∷ [])) (lists_behind k ks ns (p ++ z ∷ []))
    (begins k (inserted next ks) (drop 1 ns) (p ++ z ∷ []) r) (begins k ks ns (p ++ z ∷ []) r) m.2 in
    (z ∷ w.0, w.1 ∙ append_assoc p (z ∷ []) w.0)

-- each that goes on with z begins with it
goes_on_with : (k : ℕ) (ks ns p : List ℤ) (z : ℤ) (r : List ℤ) → In r (going_on (lists_behind k) ks ns p z)
    → (q : List ℤ) × (r ≡ (p ++ z ∷ []) ++ q)
goes_on_with k ks ns p z r i =
    let next = get_or ns 0 (pos 0) in
    by_next (λ xs. In r xs → (q : List ℤ) × (r ≡ (p ++ z ∷ []) ++ q)) (int_eq z next)
    (lists_behind k (inserted next ks) (drop 1 ns) (p ++ z ∷ [])) (lists_behind k ks ns (p ++ z ∷ []))
    (begins k (inserted next ks) (drop 1 ns) (p ++ z ∷ []) r) (begins k ks ns (p ++ z ∷ []) r) i

pub behind_rise : (k : ℕ) (ks ns p : List ℤ) → Rises ks → ListsRise (lists_behind k ks ns p)
behind_rise zero ks ns p r = (λ s i. absurd i, tt)
behind_rise (suc k) ks ns p r =
    let next = get_or ns 0 (pos 0) in
    flat_rises (going_on (lists_behind k) ks ns p) (inserted next ks) (inserted_rises next ks r)
    (λ z _. by_next ListsRise (int_eq z next) (lists_behind k (inserted next ks) (drop 1 ns) (p ++ z ∷ []))
    (lists_behind k ks ns (p ++ z ∷ []))
    (behind_rise k (inserted next ks) (drop 1 ns) (p ++ z ∷ []) (inserted_rises next ks r))
    (behind_rise k ks ns (p ++ z ∷ []) r))
    (λ v w x y _ _ l i j. (let a = goes_on_with k ks ns p v x i in let b = goes_on_with k ks ns p w y j in
    (λ t. slice_cmp int_cmp (a.1 t) (b.1 t)) ∙ lex p a.0 b.0 v w l))

-- ---- just the lists of blocks

-- the choices are the constants and the values before, and the numbers are new
record Choices (cs before ks ns : List ℤ) : Type 0 where
  is : (z : ℤ) → In z ks → In z cs ⊎ In z before
  all : (z : ℤ) → In z cs ⊎ In z before → In z ks
  rise : Rises ns
  new : (z : ℤ) → In z ns → In z ks → ⊥

-- with the next number among the values before, it is a choice
choices_on : (cs before ks : List ℤ) (n : ℤ) (ns : List ℤ) → Choices cs before ks (n ∷ ns)
    → Choices cs (n ∷ before) (inserted n ks) ns
choices_on cs before ks n ns c = record {
  is = λ z i. elim (in_inserted n z ks i) as (λ _. In z cs ⊎ In z (n ∷ before)) [
    | inl e ↦ inr (inl e)
    | inr j ↦ elim (c.is z j) as (λ _. In z cs ⊎ In z (n ∷ before)) [ inl k ↦ inl k | inr k ↦ inr (inr k) ]
  ];
  all = λ z i. inserted_in n z ks (elim i as (λ _. (z ≡ n) ⊎ In z ks) [
    | inl j ↦ inr (c.all z (inl j))
    | inr j ↦ elim j as (λ _. (z ≡ n) ⊎ In z ks) [ inl e ↦ inl e | inr k ↦ inr (c.all z (inr k)) ]
  ]);
  rise = c.rise.1;
  new = λ z i j. elim (in_inserted n z ks j) as (λ _. ⊥) [
    | inl e ↦ (let l = c.rise.0 z i in absurd (omega (arith, ints, l, e)))
    | inr k ↦ c.new z (inr i) k
  ];
}

-- the rest of a list behind p
abbrev Rest : ℕ → List ℤ → List ℤ → List ℤ → List ℤ → List ℤ → Type 0
Rest k cs before ns p r = (q : List ℤ) × (r ≡ p ++ q) × (length q ≡ k) × AreBlocks cs before ns q

are_blocks : (k : ℕ) (cs before ks ns p r : List ℤ) → Choices cs before ks ns → k ≤ length ns
    → In r (lists_behind k ks ns p) → Rest k cs before ns p r
are_blocks zero cs before ks ns p r c l i = elim i as (λ _. Rest 0 cs before ns p r)
    [ inl e ↦ ([], e ∙ sym (append-nil p), refl, tt) | inr n ↦ absurd n ]
are_blocks (suc k) cs before ks [] p r c l i = absurd (omega (arith, l))
are_blocks (suc k) cs before ks (n ∷ ns) p r c l i =
    let m = in_flat_map r (going_on (lists_behind k) ks (n ∷ ns) p) (inserted n ks) i in
    let z = m.0 in
    elim (int_eq z n) as (λ b. int_eq z n ≡ b → In r (cond b (lists_behind k (inserted n ks) ns (p ++ z ∷ []))
    (lists_behind k ks (n ∷ ns) (p ++ z ∷ []))) → Rest (suc k) cs before (n ∷ ns) p r) [
      | true ↦ λ e j. (let w = are_blocks k cs (n ∷ before) (inserted n ks) ns (p ++ z ∷ []) r
          (choices_on cs before ks n ns c) (omega (arith, l)) j in
          (z ∷ w.0, w.1 ∙ append_assoc p (z ∷ []) w.0, ap suc w.2, inr (same_yes z n e, w.3)))
      | false ↦ λ e j. (let w = are_blocks k cs before ks (n ∷ ns) (p ++ z ∷ []) r c (omega (arith, l)) j in
          let there = elim (in_inserted n z ks m.1) as (λ _. In z ks)
          [ inl q ↦ absurd (same_no z n e q) | inr h ↦ h ] in
          (z ∷ w.0, w.1 ∙ append_assoc p (z ∷ []) w.0, ap suc w.2, inl (c.is z there, w.3)))
    ] refl m.2

all_blocks : (q cs before ks ns p : List ℤ) → Choices cs before ks ns → length q ≤ length ns → AreBlocks cs before ns q
    → In (p ++ q) (lists_behind (length q) ks ns p)
all_blocks [] cs before ks ns p c l b = inl (append-nil p)
all_blocks (z ∷ q) cs before ks [] p c l b = absurd (omega (arith, l))
all_blocks (z ∷ q) cs before ks (n ∷ ns) p c l (inl h) =
    let i : In z ks = c.all z h.0 in
    let ih = all_blocks q cs before ks (n ∷ ns) (p ++ z ∷ []) c (omega (arith, l)) h.1 in
    let here : In (p ++ z ∷ q) (lists_behind (length q) ks (n ∷ ns) (p ++ z ∷ [])) =
    subst (λ x. In x (lists_behind (length q) ks (n ∷ ns) (p ++ z ∷ []))) (append_assoc p (z ∷ []) q) ih in
    flat_map_in (p ++ z ∷ q) (going_on (lists_behind (length q)) ks (n ∷ ns) p) z (inserted n ks)
    (inserted_in n z ks (inr i))
    (elim (int_eq z n) as (λ b. int_eq z n ≡ b → In (p ++ z ∷ q)
    (cond b (lists_behind (length q) (inserted n ks) ns (p ++ z ∷ []))
    (lists_behind (length q) ks (n ∷ ns) (p ++ z ∷ [])))) [
      | true ↦ λ e. absurd (c.new n (inl refl) (subst (λ x. In x ks) (same_yes z n e) i))
      | false ↦ λ e. here
    ] refl)
all_blocks (z ∷ q) cs before ks (n ∷ ns) p c l (inr h) =
    let ih = all_blocks q cs (n ∷ before) (inserted n ks) ns (p ++ z ∷ []) (choices_on cs before ks n ns c)
    (omega (arith, l)) h.1 in
    let here : In (p ++ z ∷ q) (lists_behind (length q) (inserted n ks) ns (p ++ z ∷ [])) =
    subst (λ x. In x (lists_behind (length q) (inserted n ks) ns (p ++ z ∷ []))) (append_assoc p (z ∷ []) q) ih in
    flat_map_in (p ++ z ∷ q) (going_on (lists_behind (length q)) ks (n ∷ ns) p) z (inserted n ks)
    (inserted_in n z ks (inl h.0))
    (subst (λ b. In (p ++ z ∷ q) (cond b (lists_behind (length q) (inserted n ks) ns (p ++ z ∷ []))
    (lists_behind (length q) ks (n ∷ ns) (p ++ z ∷ [])))) (sym (yes_same z n h.0)) here)

at_first : (cs us : List ℤ) → AreFirstNumbers cs us → Choices cs [] cs us
at_first cs us f = record {
  is = λ z i. inl i;
  all = λ z i. elim i as (λ _. In z cs) [ inl j ↦ j | inr n ↦ absurd n ];
  rise = f.rise;
  new = λ z i j. (f.new z i).1 j;
}

-- behind no value, with the constants as choices
pub blocks_listed : (cs us : List ℤ) (n : ℕ) → length us ≡ n → AreFirstNumbers cs us → (zs : List ℤ)
    → In zs (lists_behind n cs us []) ↔ ((length zs ≡ n) × AreBlocks cs [] us zs)
blocks_listed cs us n l f zs = (
  λ i. (let w = are_blocks n cs [] cs us [] zs (at_first cs us f) (omega (arith, l)) i in
      (ap length w.1 ∙ w.2, subst (AreBlocks cs [] us) (sym w.1) w.3)),
  λ h. subst (λ k. In zs (lists_behind k cs us [])) h.0
      (all_blocks zs cs [] cs us [] (at_first cs us f) (let e = h.0 in omega (arith, l, e)) h.1),
)

-- ---- of many values

length-inserted : (v : ℤ) (ks : List ℤ) → ¬ In v ks → length (inserted v ks) ≡ suc (length ks)
length-inserted v [] n = refl
length-inserted v (k ∷ ks) n = by_order (length (inserted v (k ∷ ks)) ≡ suc (suc (length ks))) k v
    (λ e. ap length (at_lesser v k ks e) ∙ ap suc (length-inserted v ks (λ i. n (inr i))))
    (λ e f. ap length (at_greater v k ks e f))
    (λ e f same. absurd (n (inl (sym same))))

two_joined : (f : ℤ → List (List ℤ)) (m : ℕ) (ks : List ℤ) → ((z : ℤ) → m ≤ length (f z)) → 2 ≤ length ks
    → m + m ≤ length (flat_map f ks)
two_joined f m [] all l = absurd (omega (arith, l))
two_joined f m (k ∷ []) all l = absurd (omega (arith, l))
two_joined f m (j ∷ k ∷ ks) all l =
    let a = length-append (f j) (flat_map f (k ∷ ks)) in
    let b = length-append (f k) (flat_map f ks) in
    let c = all j in
    let d = all k in
    omega (arith, a, b, c, d)

-- with a choice there, each value more can be it or the next number
many_behind : (k : ℕ) (cs before ks ns p : List ℤ) → Choices cs before ks ns → k ≤ length ns → 0 < length ks
    → 2 ^ k ≤ length (lists_behind k ks ns p)
many_behind zero cs before ks ns p c l some = omega arith
many_behind (suc k) cs before ks [] p c l some = absurd (omega (arith, l))
many_behind (suc k) cs before ks (n ∷ ns) p c l some =
    let longer = length-inserted n ks (λ i. c.new n (inl refl) i) in
    let twice : 2 ^ suc k ≡ 2 ^ k * 2 = pow-suc 2 k in
    let m = two_joined (going_on (lists_behind k) ks (n ∷ ns) p) (2 ^ k) (inserted n ks)
    (λ z. by_next (λ xs. 2 ^ k ≤ length xs) (int_eq z n) (lists_behind k (inserted n ks) ns (p ++ z ∷ []))
    (lists_behind k ks (n ∷ ns) (p ++ z ∷ []))
    (many_behind k cs (n ∷ before) (inserted n ks) ns (p ++ z ∷ []) (choices_on cs before ks n ns c) (omega (arith, l))
    (omega (arith, longer)))
    (many_behind k cs before ks (n ∷ ns) (p ++ z ∷ []) c (omega (arith, l)) some))
    (omega (arith, longer, some)) in
    omega (arith, m, twice)

-- the first value can be the first number
many_first : (k : ℕ) (cs before ks ns p : List ℤ) → Choices cs before ks ns → suc k ≤ length ns
    → 2 ^ k ≤ length (lists_behind (suc k) ks ns p)
many_first k cs before ks [] p c l = absurd (omega (arith, l))
many_first k cs before ks (n ∷ ns) p c l =
    let f = going_on (lists_behind k) ks (n ∷ ns) p in
    let longer = length-inserted n ks (λ i. c.new n (inl refl) i) in
    let more = many_behind k cs (n ∷ before) (inserted n ks) ns (p ++ n ∷ []) (choices_on cs before ks n ns c)
    (omega (arith, l)) (omega (arith, longer)) in
    let is : f n ≡ lists_behind k (inserted n ks) ns (p ++ n ∷ []) =
    ap (λ b. cond b (lists_behind k (inserted n ks) ns (p ++ n ∷ [])) (lists_behind k ks (n ∷ ns) (p ++ n ∷ [])))
    (yes_same n n refl) in
    let same = ap length is in
    let all = flat_some f n (inserted n ks) (inserted_in n n ks (inl refl)) in
    omega (arith, more, same, all)

-- of more than 64 values there are more lists than any limit
pub many_blocks : (limit n : ℕ) (cs us : List ℤ) → limit < 2 ^ 64 → 64 < n → length us ≡ n → AreFirstNumbers cs us
    → limit < length (lists_behind n cs us [])
many_blocks limit zero cs us l m e f = absurd (omega (arith, m))
many_blocks limit (suc k) cs us l m e f =
    let many = many_first k cs [] cs us [] (at_first cs us f) (omega (arith, e)) in
    let p : 2 ^ 64 ≤ 2 ^ k = pow_mono {i = 64} {j = k} (omega (arith, m)) in
    omega (arith, many, p, l)
