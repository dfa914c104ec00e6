-- What is woven are all combinations.
use Rattle.std.specs.Prelude.{◌≡◌, ℕ, zero, suc, ℤ, pos, ◌≤ℤ◌, ◌<ℤ◌, ◌<◌, ◌≤◌, ◌↔◌, Bool, true, false, cond, nat_eq}
use Rattle.std.specs.Prelude.{List, [], ◌∷◌, ◌++◌, length}
use Rattle.std.proofs.Common.{refl, sym, ap, subst, ◌∙◌, arith, inl, inr, append_assoc, append-nil, length-append, drop}
use mathlib.Core.Bool.{not}
use Rattle.std.specs.List.{flat_map}
use Rattle.std.specs.Ordering.{int_eq, int_cmp, ordering_then}
use Rattle.std.specs.declared.cmp.Ordering.TheVariants.{Less}
use Rattle.std.specs.Cmp.{tied_itself, int_cmp_total}
use Rattle.std.specs.Cmp.Lexicographic.{slice_cmp, lists_total}
use Rattle.std.proofs.lemmas.Bool.{eqb-true, eq-eqb}
use Rattle.std.proofs.lemmas.Int.{ints}
use Rattle.chr_types.specs.OrderTypes.{In, Rises, RisesBy, AreValues, IsValue}
use Rattle.chr_types.specs.working.Search.{others}
use Rattle.chr_types.proofs.Members.{in_flat_map, flat_map_in}
use Rattle.chr_types.proofs.RisingLists.{ListsRise}
use Rattle.chr_types.proofs.Enumeration.{flat_rises, lex}
use Rattle.chr_types.proofs.OneList.{never}
use Rattle.chr_types.proofs.Holes.{others_in, same_yes, same_no, yes_same}
use Rattle.chr_types.proofs.Bases.{apart}
use Rattle.chr_confluence.specs.Sorts.{Sorts, Kind, ordered, equal, free}
use Rattle.chr_confluence.specs.SortLists.{AreBlocks, values_at, sort_count}
use Rattle.chr_sorting.specs.SortedCaseLists.{AreListsAt, AreCombinations}
use Rattle.chr_sorting.specs.working.Blocks.{next_number}
use Rattle.chr_sorting.specs.working.Weaving.{firsts, each_once, tails, begun, woven}
use Rattle.chr_sorting.proofs.Combined.{is_one, one_in, in_one, none_counted, chosen}
use Rattle.chr_sorting.proofs.Blocks.{flat_some}
use Rattle.chr_sorting.proofs.Weaving.{once_in, in_once}

-- ---- order

others_rise : (x : ℤ) (xs : List ℤ) → Rises xs → Rises (others x xs)
others_rise x [] h = tt
others_rise x (y ∷ ys) h = elim (int_eq y x) as (λ b. Rises (cond (not b) (y ∷ others x ys) (others x ys))) [
  | true ↦ others_rise x ys h.1
  | false ↦ (λ z i. h.0 z (others_in x z ys i).0, others_rise x ys h.1)
]

once_rise : (xs : List ℤ) → RisesBy ◌≤ℤ◌ xs → Rises (each_once xs)
once_rise [] h = tt
once_rise (x ∷ xs) h = (
  λ y i. (
      let o = others_in x y (each_once xs) i in
      let l = h.0 y (once_in y xs o.0) in
      elim (apart x y) as (λ _. x <ℤ y) [ inl m ↦ m | inr m ↦ absurd (o.1 (omega (arith, ints, l, m))) ]
      ),
  others_rise x (each_once xs) (once_rise xs h.1),
)

-- ---- first values and what follows them

firsts_in : (z : ℤ) (ls : List (List ℤ)) → In z (firsts ls) → (zs : List ℤ) × In (z ∷ zs) ls
firsts_in z [] i = absurd i
firsts_in z ([] ∷ ls) i = let m = firsts_in z ls i in (m.0, inr m.1)
firsts_in z ((y ∷ ys) ∷ ls) (inl e) = (ys, inl (ap (λ x. x ∷ ys) e))
firsts_in z ((y ∷ ys) ∷ ls) (inr i) = let m = firsts_in z ls i in (m.0, inr m.1)

in_firsts : (z : ℤ) (zs l : List ℤ) (ls : List (List ℤ)) → l ≡ z ∷ zs → In l ls → In z (firsts ls)
in_firsts z zs l [] e i = absurd i
in_firsts z zs l ([] ∷ ls) e (inl g) = absurd (let n = ap length (sym e ∙ g) in omega (arith, n))
in_firsts z zs l ([] ∷ ls) e (inr i) = in_firsts z zs l ls e i
in_firsts z zs l ((y ∷ ys) ∷ ls) e (inl g) = inl (ap next_number (sym e ∙ g))
in_firsts z zs l ((y ∷ ys) ∷ ls) e (inr i) = inr (in_firsts z zs l ls e i)

tails_in : (z : ℤ) (l : List ℤ) (ls : List (List ℤ)) → In l (tails z ls) → In (z ∷ l) ls
tails_in z l [] i = absurd i
tails_in z l ([] ∷ ls) i = inr (tails_in z l ls i)
tails_in z l ((y ∷ ys) ∷ ls) i = elim (int_eq y z) as (λ b. int_eq y z ≡ b
    → In l (cond b (ys ∷ tails z ls) (tails z ls)) → In (z ∷ l) ((y ∷ ys) ∷ ls)) [
      | true ↦ λ e j. elim j as (λ _. In (z ∷ l) ((y ∷ ys) ∷ ls))
          [ inl g ↦ inl (λ t. sym (same_yes y z e) t ∷ g t) | inr k ↦ inr (tails_in z l ls k) ]
      | false ↦ λ e j. inr (tails_in z l ls j)
    ] refl i

in_tails : (z : ℤ) (l : List ℤ) (ls : List (List ℤ)) → In (z ∷ l) ls → In l (tails z ls)
in_tails z l [] i = absurd i
in_tails z l ([] ∷ ls) (inl g) = absurd (let n = ap length g in omega (arith, n))
in_tails z l ([] ∷ ls) (inr i) = in_tails z l ls i
in_tails z l ((y ∷ ys) ∷ ls) i = elim (int_eq y z) as (λ b. int_eq y z ≡ b
    → In l (cond b (ys ∷ tails z ls) (tails z ls))) [
      | true ↦ λ e. elim i as (λ _. In l (ys ∷ tails z ls))
          [ inl g ↦ inl (ap (drop 1) g) | inr j ↦ inr (in_tails z l ls j) ]
      | false ↦ λ e. elim i as (λ _. In l (tails z ls)) [
        | inl g ↦ absurd (same_no y z e (sym (ap next_number g)))
        | inr j ↦
            in_tails z l ls j
      ]
    ] refl

tails_rise : (z : ℤ) (ls : List (List ℤ)) → ListsRise ls → ListsRise (tails z ls)
tails_rise z [] h = tt
tails_rise z ([] ∷ ls) h = tails_rise z ls h.1
tails_rise z ((y ∷ ys) ∷ ls) h = elim (int_eq y z) as (λ b. int_eq y z ≡ b
    → ListsRise (cond b (ys ∷ tails z ls) (tails z ls))) [
      | true ↦ λ e. (
        λ t i. (
            let l : slice_cmp int_cmp (z ∷ ys) (z ∷ t) ≡ Less = subst (λ x. slice_cmp int_cmp (x ∷ ys) (z ∷ t) ≡ Less)
            (same_yes y z e) (h.0 (z ∷ t) (tails_in z t ls i)) in
            sym (ap (λ o. ordering_then o (slice_cmp int_cmp ys t)) (tied_itself int_cmp_total z)) ∙ l
            ),
        tails_rise z ls h.1,
      )
      | false ↦ λ e. tails_rise z ls h.1
    ] refl

firsts_rise : (ls : List (List ℤ)) → ListsRise ls → RisesBy ◌≤ℤ◌ (firsts ls)
firsts_rise [] h = tt
firsts_rise ([] ∷ ls) h = firsts_rise ls h.1
firsts_rise ((z ∷ zs) ∷ ls) h = (
  λ y i. (
      let m = firsts_in y ls i in
      elim (apart y z) as (λ _. z ≤ℤ y) [
        | inl l ↦ absurd (never (z ∷ zs) ((lists_total int_cmp_total).trans (z ∷ zs) (y ∷ m.0) (z ∷ zs)
            (h.0 (y ∷ m.0) m.1) (lex [] m.0 zs y z l)))
        | inr l ↦ l
      ]
      ),
  firsts_rise ls h.1,
)

-- ---- what is to come

-- the lists of what is to come at each sort, where ks are the sorts of the values to come
record AreToCome (ks : List ℕ) (lists : ℕ → List (List ℤ)) : Type 0 where
  counts : (k : ℕ) (l : List ℤ) → In l (lists k) → length l ≡ sort_count k ks
  some : (k : ℕ) → (l : List ℤ) × In l (lists k)
  rise : (k : ℕ) → ListsRise (lists k)

counted_here : (k : ℕ) (ks : List ℕ) → sort_count k (k ∷ ks) ≡ suc (sort_count k ks)
counted_here k ks = ap (λ b. cond b (suc (sort_count k ks)) (sort_count k ks)) (eq-eqb k k refl)

come_on : (k : ℕ) (ks : List ℕ) (lists : ℕ → List (List ℤ)) (z : ℤ) → AreToCome (k ∷ ks) lists → In z (firsts (lists k))
    → AreToCome ks (begun k z lists)
come_on k ks lists z h i = record {
  counts = λ j l. elim (nat_eq k j) as (λ b. nat_eq k j ≡ b → In l (cond b (tails z (lists k)) (lists j)) → length l
      ≡ sort_count j ks) [
        | true ↦ λ e g. (
            let n = h.counts k (z ∷ l) (tails_in z l (lists k) g) in
            let m = counted_here k ks in
            let here : length l ≡ sort_count k ks = omega (arith, n, m) in
            here ∙ ap (λ x. sort_count x ks) (eqb-true k j e)
            )
        | false ↦ λ e g. h.counts j l g ∙ ap (λ b. cond b (suc (sort_count j ks)) (sort_count j ks)) e
      ] refl;
  some = λ j. elim (nat_eq k j) as (λ b. (l : List ℤ) × In l (cond b (tails z (lists k)) (lists j))) [
    | true ↦ (let m = firsts_in z (lists k) i in (m.0, in_tails z m.0 (lists k) m.1))
    | false ↦ h.some j
  ];
  rise = λ j. elim (nat_eq k j) as (λ b. ListsRise (cond b (tails z (lists k)) (lists j)))
      [ true ↦ tails_rise z (lists k) (h.rise k) | false ↦ h.rise j ];
}

-- ---- what is woven

record IsWoven (ks : List ℕ) (lists : ℕ → List (List ℤ)) (p r : List ℤ) : Type 0 where
  us : List ℤ
  begins : r ≡ p ++ us
  count : length us ≡ length ks
  each : (k : ℕ) → In (values_at k ks us) (lists k)

woven_in : (ks : List ℕ) (lists : ℕ → List (List ℤ)) (p r : List ℤ) → AreToCome ks lists → In r (woven ks lists p)
    → IsWoven ks lists p r
woven_in [] lists p r h (inl e) = record {
  us = [];
  begins = e ∙ sym (append-nil p);
  count = refl;
  each = λ k. (let m = h.some k in subst (λ l. In l (lists k)) (none m.0 (h.counts k m.0 m.1)) m.1);
}
  where
    none : (l : List ℤ) → length l ≡ 0 → l ≡ []
    none [] e = refl
    none (x ∷ xs) e = absurd (omega (arith, e))
woven_in [] lists p r h (inr i) = absurd i
woven_in (k ∷ ks) lists p r h i =
    let m = in_flat_map r (λ z. woven ks (begun k z lists) (p ++ z ∷ [])) (each_once (firsts (lists k))) i in
    let z = m.0 in
    let f = once_in z (firsts (lists k)) m.1 in
    let w = woven_in ks (begun k z lists) (p ++ z ∷ []) r (come_on k ks lists z h f) m.2 in
    record {
      us = z ∷ w.us;
      begins = w.begins ∙ append_assoc p (z ∷ []) w.us;
      count = ap suc w.count;
      each = λ j. elim (nat_eq k j) as (λ b. nat_eq k j ≡ b
          → In (values_at j ks w.us) (cond b (tails z (lists k)) (lists j))
          → In (cond b (z ∷ values_at j ks w.us) (values_at j ks w.us)) (lists j)) [
            | true ↦ λ e g. subst (λ x. In (z ∷ values_at j ks w.us) (lists x)) (eqb-true k j e)
                (tails_in z (values_at j ks w.us) (lists k) g)
            | false ↦ λ e g. g
          ] refl (w.each j);
    }

in_woven : (ks : List ℕ) (lists : ℕ → List (List ℤ)) (p us : List ℤ) → length us ≡ length ks
    → ((k : ℕ) → In (values_at k ks us) (lists k)) → In (p ++ us) (woven ks lists p)
in_woven [] lists p [] l h = inl (append-nil p)
in_woven [] lists p (u ∷ us) l h = absurd (omega (arith, l))
in_woven (k ∷ ks) lists p [] l h = absurd (omega (arith, l))
in_woven (k ∷ ks) lists p (u ∷ us) l h =
    let here : In (u ∷ values_at k ks us) (lists k) = subst
    (λ b. In (cond b (u ∷ values_at k ks us) (values_at k ks us)) (lists k)) (eq-eqb k k refl) (h k) in
    let ih = in_woven ks (begun k u lists) (p ++ u ∷ []) us (omega (arith, l)) each in
    flat_map_in (p ++ u ∷ us) (λ z. woven ks (begun k z lists) (p ++ z ∷ [])) u (each_once (firsts (lists k)))
    (in_once u (firsts (lists k)) (in_firsts u (values_at k ks us) (u ∷ values_at k ks us) (lists k) refl here))
    (subst (λ r. In r (woven ks (begun k u lists) (p ++ u ∷ []))) (append_assoc p (u ∷ []) us) ih)
  where
    each : (j : ℕ) → In (values_at j ks us) (begun k u lists j)
    each j = elim (nat_eq k j) as (λ b. nat_eq k j ≡ b → In (cond b (u ∷ values_at j ks us) (values_at j ks us))
        (lists j) → In (values_at j ks us) (cond b (tails u (lists k)) (lists j))) [
          | true ↦ λ e g. in_tails u (values_at j ks us) (lists k)
              (subst (λ x. In (u ∷ values_at j ks us) (lists x)) (sym (eqb-true k j e)) g)
          | false ↦ λ e g. g
        ] refl (h j)

woven_rises : (ks : List ℕ) (lists : ℕ → List (List ℤ)) (p : List ℤ) → AreToCome ks lists → ListsRise (woven ks lists p)
woven_rises [] lists p h = (λ y i. absurd i, tt)
woven_rises (k ∷ ks) lists p h =
    flat_rises (λ z. woven ks (begun k z lists) (p ++ z ∷ [])) (each_once (firsts (lists k)))
    (once_rise (firsts (lists k)) (firsts_rise (lists k) (h.rise k)))
    (λ z i. woven_rises ks (begun k z lists) (p ++ z ∷ []) (come_on k ks lists z h (once_in z (firsts (lists k)) i)))
    (λ v v' r r' i i' l j j'. (
    let a = woven_in ks (begun k v lists) (p ++ v ∷ []) r (come_on k ks lists v h (once_in v (firsts (lists k)) i)) j in
    let b = woven_in ks (begun k v' lists) (p ++ v' ∷ []) r'
    (come_on k ks lists v' h (once_in v' (firsts (lists k)) i')) j' in
    (λ t. slice_cmp int_cmp (a.begins t) (b.begins t)) ∙ lex p a.us b.us v v' l
    ))

-- only the lists of the sorts ks matter
woven_like : (ks : List ℕ) (lists others : ℕ → List (List ℤ)) (p : List ℤ) → ((k : ℕ) → In k ks → lists k ≡ others k)
    → woven ks lists p ≡ woven ks others p
woven_like [] lists others p h = refl
woven_like (k ∷ ks) lists others p h =
    let here = h k (inl refl) in
    ap (λ ls. flat_map (λ z. woven ks (begun k z lists) (p ++ z ∷ [])) (each_once (firsts ls))) here
    ∙ (λ t. flat_map (λ z. woven_like ks (begun k z lists) (begun k z others) (p ++ z ∷ []) (λ j i. like j z i) t)
    (each_once (firsts (others k))))
  where
    like : (j : ℕ) (z : ℤ) → In j ks → begun k z lists j ≡ begun k z others j
    like j z i = elim (nat_eq k j) as (λ b. cond b (tails z (lists k)) (lists j) ≡ cond b (tails z (others k))
        (others j)) [
          | true ↦ ap (tails z) (h k (inl refl))
          | false ↦ h j (inr i)
        ]

-- ---- one list at each sort

own_blocks : (cs before us : List ℤ) → AreBlocks cs before us us
own_blocks cs before [] = tt
own_blocks cs before (u ∷ us) = inr (refl, own_blocks cs (u ∷ before) us)

abbrev zeros : ℕ → List ℤ
zeros zero = []
zeros (suc n) = pos 0 ∷ zeros n

count_zeros : (n : ℕ) → length (zeros n) ≡ n
count_zeros zero = refl
count_zeros (suc n) = ap suc (count_zeros n)

value_zero : IsValue (pos 0)
value_zero = (omega (arith, ints), omega (arith, ints))

value_zeros : (n : ℕ) → AreValues (zeros n)
value_zeros zero z i = absurd i
value_zeros (suc n) z (inl e) = subst IsValue (sym e) value_zero
value_zeros (suc n) z (inr i) = value_zeros n z i

pub some_list : (k : Kind) (cs : List ℤ) (n : ℕ) (ls : List (List ℤ)) → AreListsAt k cs n ls → (l : List ℤ) × In l ls
some_list free cs n ls h = (h.0, subst (In h.0) (sym h.3) (inl refl))
some_list equal cs n ls h = (h.0, (h.3 h.0).1 (h.1, own_blocks cs [] h.0))
some_list ordered cs n ls h = let m = h.complete (zeros n) (count_zeros n) (value_zeros n) in (m.0, m.1)

pub list_count : (k : Kind) (cs : List ℤ) (n : ℕ) (ls : List (List ℤ)) → AreListsAt k cs n ls → (l : List ℤ) → In l ls
    → length l ≡ n
list_count free cs n ls h l i = elim (subst (In l) h.3 i) as (λ _. length l ≡ n)
    [ inl e ↦ ap length e ∙ h.1 | inr none ↦ absurd none ]
list_count equal cs n ls h l i = ((h.3 l).0 i).0
list_count ordered cs n ls h l i = (h.stated l i).0

lists_rise : (k : Kind) (cs : List ℤ) (n : ℕ) (ls : List (List ℤ)) → AreListsAt k cs n ls → ListsRise ls
lists_rise free cs n ls h = subst ListsRise (sym h.3) (λ y i. absurd i, tt)
lists_rise equal cs n ls h = h.4
lists_rise ordered cs n ls h = h.order

-- ---- how many

flat_longer : (f g : ℤ → List (List ℤ)) (zs : List ℤ) → ((z : ℤ) → In z zs → length (f z) ≤ length (g z))
    → length (flat_map f zs) ≤ length (flat_map g zs)
flat_longer f g [] h = omega arith
flat_longer f g (z ∷ zs) h =
    let here = h z (inl refl) in
    let rest = flat_longer f g zs (λ y i. h y (inr i)) in
    let a = length-append (f z) (flat_map f zs) in
    let b = length-append (g z) (flat_map g zs) in
    omega (arith, here, rest, a, b)

tails_grow : (z : ℤ) (l : List ℤ) (ls : List (List ℤ)) → length (tails z ls) ≤ length (tails z (l ∷ ls))
tails_grow z [] ls = omega arith
tails_grow z (y ∷ ys) ls = elim (int_eq y z) as (λ b. length (tails z ls) ≤ length
    (cond b (ys ∷ tails z ls) (tails z ls))) [ true ↦ omega arith | false ↦ omega arith ]

one_more_tail : (y : ℤ) (ys : List ℤ) (ls : List (List ℤ)) (zs : List ℤ) → In y zs
    → length (flat_map (λ z. tails z ls) zs) < length (flat_map (λ z. tails z ((y ∷ ys) ∷ ls)) zs)
one_more_tail y ys ls [] i = absurd i
one_more_tail y ys ls (x ∷ zs) i =
    let a = length-append (tails x ls) (flat_map (λ z. tails z ls) zs) in
    let b = length-append (tails x ((y ∷ ys) ∷ ls)) (flat_map (λ z. tails z ((y ∷ ys) ∷ ls)) zs) in
    elim i as (λ _. length (flat_map (λ z. tails z ls) (x ∷ zs)) < length
    (flat_map (λ z. tails z ((y ∷ ys) ∷ ls)) (x ∷ zs))) [
      | inl e ↦ (
          let rest = flat_longer (λ z. tails z ls) (λ z. tails z ((y ∷ ys) ∷ ls)) zs
          (λ z j. tails_grow z (y ∷ ys) ls) in
          let here : length (tails x ((y ∷ ys) ∷ ls)) ≡ suc (length (tails x ls)) =
          ap (λ c. length (cond c (ys ∷ tails x ls) (tails x ls))) (yes_same y x e) in
          omega (arith, a, b, rest, here)
          )
      | inr j ↦ (
          let rest = one_more_tail y ys ls zs j in
          let here = tails_grow x (y ∷ ys) ls in
          omega (arith, a, b, rest, here)
          )
    ]

tails_cover : (zs : List ℤ) (ls : List (List ℤ)) → ((l : List ℤ) → In l ls → 0 < length l)
    → ((z : ℤ) → In z (firsts ls) → In z zs)
    → length ls ≤ length (flat_map (λ z. tails z ls) zs)
tails_cover zs [] h f = omega arith
tails_cover zs ([] ∷ ls) h f = absurd (let l = h [] (inl refl) in omega (arith, l))
tails_cover zs ((y ∷ ys) ∷ ls) h f =
    let rest = tails_cover zs ls (λ l i. h l (inr i)) (λ z i. f z (inr i)) in
    let more = one_more_tail y ys ls zs (f y (inl refl)) in
    omega (arith, rest, more)

empty : (l : List ℤ) → length l ≡ 0 → l ≡ []
empty [] e = refl
empty (x ∷ xs) e = absurd (omega (arith, e))

at_most_one : (ls : List (List ℤ)) → ListsRise ls → ((l : List ℤ) → In l ls → length l ≡ 0) → length ls ≤ 1
at_most_one [] h c = omega arith
at_most_one (l ∷ []) h c = omega arith
at_most_one (l ∷ (m ∷ ms)) h c =
    let a = empty l (c l (inl refl)) in
    let b = empty m (c m (inr (inl refl))) in
    absurd (never l (subst (λ x. slice_cmp int_cmp l x ≡ Less) (b ∙ sym a) (h.0 m (inl refl))))

full_lists : (j : ℕ) (ks : List ℕ) (lists : ℕ → List (List ℤ)) → AreToCome (j ∷ ks) lists → (l : List ℤ)
    → In l (lists j) → 0 < length l
full_lists j ks lists h l i = let a = h.counts j l i in let b = counted_here j ks in omega (arith, a, b)

first_there : (l : List ℤ) → 0 < length l → (z : ℤ) × (zs : List ℤ) × (l ≡ z ∷ zs)
first_there [] o = absurd (omega (arith, o))
first_there (x ∷ xs) o = (x, xs, refl)

by_value : (j : ℕ) (ks : List ℕ) (lists : ℕ → List (List ℤ)) → AreToCome (j ∷ ks) lists → (f : ℤ → List (List ℤ))
    → ((z : ℤ) → In z (each_once (firsts (lists j))) → (n : ℕ) → length (begun j z lists n) ≤ length (f z))
    → (k : ℕ) (b : Bool) → nat_eq j k ≡ b → length (lists k) ≤ length (flat_map f (each_once (firsts (lists j))))
by_value j ks lists h f at k true e =
    let zs = each_once (firsts (lists j)) in
    let cover = tails_cover zs (lists j) (full_lists j ks lists h) (λ z i. in_once z (firsts (lists j)) i) in
    let longer = flat_longer (λ z. tails z (lists j)) f zs
    (λ z i. subst (λ b. length (cond b (tails z (lists j)) (lists j)) ≤ length (f z)) (eq-eqb j j refl)
    (at z i j)) in
    let same : length (lists k) ≡ length (lists j) = ap (λ x. length (lists x)) (sym (eqb-true j k e)) in
    omega (arith, cover, longer, same)
by_value j ks lists h f at k false e =
    let zs = each_once (firsts (lists j)) in
    let m = h.some j in
    let w = first_there m.0 (full_lists j ks lists h m.0 m.1) in
    let i = in_once w.0 (firsts (lists j)) (in_firsts w.0 w.1 m.0 (lists j) w.2 m.1) in
    let here = subst (λ b. length (cond b (tails w.0 (lists j)) (lists k)) ≤ length (f w.0)) e (at w.0 i k) in
    let all = flat_some f w.0 zs i in
    omega (arith, here, all)

-- there are as many as there are lists of each sort
woven_longer : (ks : List ℕ) (lists : ℕ → List (List ℤ)) (p : List ℤ) → AreToCome ks lists → (k : ℕ)
    → length (lists k) ≤ length (woven ks lists p)
woven_longer [] lists p h k = at_most_one (lists k) (h.rise k) (h.counts k)
woven_longer (j ∷ ks) lists p h k =
    by_value j ks lists h (λ z. woven ks (begun j z lists) (p ++ z ∷ []))
    (λ z i. woven_longer ks (begun j z lists) (p ++ z ∷ [])
    (come_on j ks lists z h (once_in z (firsts (lists j)) i))) k (nat_eq j k) refl

module _ (s : Sorts) (ks : List ℕ) (lists : ℕ → List (List ℤ))
    (each : (k : ℕ) → In k ks → AreListsAt (s.kind k) (s.constants k) (sort_count k ks) (lists k)) where
  abbrev all : ℕ → List (List ℤ)
  all k = chosen (is_one k ks) (lists k)

  at_one : (k : ℕ) → In k ks → all k ≡ lists k
  at_one k i = ap (λ b. chosen b (lists k)) (in_one k ks i)

  to_come : AreToCome ks all
  to_come = record {
    counts = λ k l. elim (is_one k ks) as (λ b. is_one k ks ≡ b → In l (chosen b (lists k)) → length l
        ≡ sort_count k ks) [
          | true ↦ λ e i. list_count (s.kind k) (s.constants k) (sort_count k ks) (lists k) (each k (one_in k ks e)) l i
          | false ↦ λ e i. elim i as (λ _. length l ≡ sort_count k ks)
              [ inl g ↦ ap length g ∙ sym (none_counted k ks e) | inr none ↦ absurd none ]
        ] refl;
    some = λ k. elim (is_one k ks) as (λ b. is_one k ks ≡ b → (l : List ℤ) × In l (chosen b (lists k))) [
      | true ↦ λ e. some_list (s.kind k) (s.constants k) (sort_count k ks) (lists k) (each k (one_in k ks e))
      | false ↦ λ e. ([], inl refl)
    ] refl;
    rise = λ k. elim (is_one k ks) as (λ b. is_one k ks ≡ b → ListsRise (chosen b (lists k))) [
      | true ↦ λ e. lists_rise (s.kind k) (s.constants k) (sort_count k ks) (lists k) (each k (one_in k ks e))
      | false ↦ λ e. (λ y i. absurd i, tt)
    ] refl;
  }

  none_at : (k : ℕ) (js : List ℕ) (us : List ℤ) → is_one k js ≡ false → values_at k js us ≡ []
  none_at k [] us h = refl
  none_at k (j ∷ js) [] h = refl
  none_at k (j ∷ js) (u ∷ us) h = elim (nat_eq j k) as (λ b. cond b true (is_one k js) ≡ false
      → cond b (u ∷ values_at k js us) (values_at k js us) ≡ []) [
        | true ↦ λ g. absurd cc
        | false ↦ λ g. none_at k js us g
      ] h

  combined : (us : List ℤ) → In us (woven ks all []) ↔
      ((length us ≡ length ks) × ((k : ℕ) → In k ks → In (values_at k ks us) (lists k)))
  combined us = (
    λ i. (
        let w = woven_in ks all [] us to_come i in (
          ap length w.begins ∙ w.count,
          λ k j. subst (In (values_at k ks us)) (at_one k j)
              (subst (λ r. In (values_at k ks r) (all k)) (sym w.begins) (w.each k)),
        )
        ),
    λ h. in_woven ks all [] us h.0
        (λ k. elim (is_one k ks) as (λ b. is_one k ks ≡ b → In (values_at k ks us) (chosen b (lists k))) [
          | true ↦ λ e. h.1 k (one_in k ks e)
          | false ↦ λ e. inl (none_at k ks us e)
        ] refl),
  )

  pub woven_are : AreCombinations s ks (woven ks lists [])
  woven_are = subst (AreCombinations s ks) (woven_like ks all lists [] at_one)
      (record { lists = lists; each = each; combined = combined; order = woven_rises ks all [] to_come })

  pub as_long : (k : ℕ) → In k ks → length (lists k) ≤ length (woven ks lists [])
  as_long k i =
      let l = woven_longer ks all [] to_come k in
      let a = ap (λ (ls : List (List ℤ)). length ls) (at_one k i) in
      let b = ap (λ (rs : List (List ℤ)). length rs) (woven_like ks all lists [] at_one) in
      omega (arith, l, a, b)
