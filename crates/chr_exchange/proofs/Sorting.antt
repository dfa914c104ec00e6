-- Operations of different ids, sorted by these, are the entries of the set that they make.
use Rattle.std.proofs.Common.{◌≡◌, List, [], ◌∷◌, map, true, false, Bool, Option, Some, None, cond, refl, sym, ap, ◌∙◌}
use Rattle.std.proofs.Common.{subst}
use Rattle.std.specs.Prelude.{IsTrue, not, ◌&&◌}
use Rattle.std.specs.Borrow.{Bor}
use Rattle.std.specs.List.{AllByRecursion, IsDistinct, filter}
use Rattle.std.specs.List.Sorted.{IsSorted, IsPermutation, IsStrictlySortedBy}
use Rattle.std.specs.Map.{keys_of}
use Rattle.std.specs.FinMap as finite
use Rattle.std.specs.FinMap.{find}
use Rattle.std.specs.declared.cmp.Ordering.{Ordering}
use Rattle.std.specs.declared.cmp.Ordering.TheVariants as order
use Rattle.std.specs.Ordering.{is_eq, is_gt, eq_by_cmp}
use Rattle.std.specs.Cmp.{IsTotalOrder, on_total, eq_by_cmp_equiv, tied_itself}
use Rattle.std.proofs.lemmas.Bool.{and_parts}
use Rattle.std.proofs.lemmas.List.Elements.{All-from_recursion, recursion_from_All}
use Rattle.std.proofs.lemmas.List.Sorted.{All-permutation, IsPermutation-map, IsPermutation-sym}
use Rattle.std.proofs.lemmas.Map.Keys.{IsDistinct-IsPermutation, IsDistinct-from_sorted, IsDistinct-head}
use Rattle.std.proofs.lemmas.Map.Keys.{IsDistinct-tail}
use mathlib.Core.Bool.{true≢false}
use Rattle.chr_base.specs.Stores.{Store}
use Rattle.chr_base.specs.FinBag.{is_rising, none_below}
use Rattle.chr_base.proofs.Ordered.{rising_from_sorted}
use Rattle.chr_exchange.specs.Texts.{HaveDifferentIds}
use Rattle.chr_ops.specs.declared.id.OpId.{OpId}
use Rattle.chr_ops.specs.Ids.{id_cmp}
use Rattle.chr_ops.specs.declared.range.IdRange.{IdRange}
use Rattle.chr_ops.specs.Operations.{Operation, Operations, operations_of}
use Rattle.chr_ops.specs.Summaries.{covers, lacking}
use Rattle.chr_ops.proofs.EntryLists.{entries_of, ids_rise}
use Rattle.chr_ops.proofs.IdOrder.{id_total, id_exact, same_id}

abbrev same : OpId → OpId → Bool
same = eq_by_cmp id_cmp

-- ---- what is found in a list of different ids doesn't depend on its order

abbrev IsFoundIn : List Operation → Operation → Type 0
IsFoundIn es e = find id_cmp e.0 es ≡ Some e.1

-- each operation that is found stays so behind one with another id
still_found : (e : Operation) (es fs : List Operation) → AllByRecursion (λ q. same e.0 q ≡ false) (keys_of fs)
    → AllByRecursion (IsFoundIn es) fs → AllByRecursion (IsFoundIn (e ∷ es)) fs
still_found e es [] apart h = tt
still_found e es (f ∷ fs) apart h =
    let other : same f.0 e.0 ≡ false = (eq_by_cmp_equiv id_total).symm f.0 e.0 ∙ apart.0 in
    (ap (λ b. cond b (Some e.1) (find id_cmp f.0 es)) other ∙ h.0, still_found e es fs apart.1 h.1)

all_found : (es : List Operation) → IsDistinct same (keys_of es) → AllByRecursion (IsFoundIn es) es
all_found [] h = tt
all_found (e ∷ es) h =
    let itself : same e.0 e.0 ≡ true = rw (tied_itself id_total e.0) refl in (
      ap (λ b. cond b (Some e.1) (find id_cmp e.0 es)) itself,
      still_found e es es
          (IsDistinct-head same e.0 (keys_of es) h) (all_found es (IsDistinct-tail same e.0 (keys_of es) h)),
    )

-- what holds of each operation holds of one that is found
of_found : (P : Operation → Type 0) (es : List Operation) (q : OpId) (s : Store) → AllByRecursion P es
    → find id_cmp q es ≡ Some s → P (q, s)
of_found P [] q s h found = absurd (let e : ◌≡◌ {A = Option Store} None (Some s) = found in cc)
of_found P (e ∷ es) q s h found = by (same q e.0) refl found (of_found P es q s h.1)
  where
    by : (b : Bool) → same q e.0 ≡ b → cond b (Some e.1) (find id_cmp q es) ≡ Some s
        → (find id_cmp q es ≡ Some s → P (q, s)) → P (q, s)
    by true is g more =
        let store : e.1 ≡ s = (let k : ◌≡◌ {A = Option Store} (Some e.1) (Some s) = g in cc) in
        subst P (λ i. (sym (same_id q e.0 is) i, store i)) h.0
    by false is g more = more g

found_too : (xs ys : List Operation) → IsPermutation xs ys → IsDistinct same (keys_of ys) → (q : OpId) (s : Store)
    → find id_cmp q xs ≡ Some s → find id_cmp q ys ≡ Some s
found_too xs ys p distinct q s found =
    let each = All-permutation (IsFoundIn ys) ys xs (IsPermutation-sym xs ys p)
    (All-from_recursion (IsFoundIn ys) ys (all_found ys distinct)) in
    of_found (IsFoundIn ys) xs q s (recursion_from_All (IsFoundIn ys) xs each) found

same_option : {A : Type 0} (o p : Option A) → ((x : A) → o ≡ Some x → p ≡ Some x) → ((x : A) → p ≡ Some x → o ≡ Some x)
    → o ≡ p
same_option None None h k = refl
same_option None (Some x) h k = k x refl
same_option (Some x) p h k = sym (h x refl)

same_found : (xs ys : List Operation) → IsPermutation xs ys → IsDistinct same (keys_of xs)
    → IsDistinct same (keys_of ys) → (q : OpId) → find id_cmp q ys ≡ find id_cmp q xs
same_found xs ys p dx dy q = same_option (find id_cmp q ys) (find id_cmp q xs)
    (λ s h. found_too ys xs (IsPermutation-sym xs ys p) dx q s h) (λ s h. found_too xs ys p dy q s h)

same_set : (xs ys : List Operation) → IsPermutation xs ys → IsDistinct same (keys_of xs) → IsDistinct same (keys_of ys)
    → operations_of ys ≡ operations_of xs
same_set xs ys p dx dy =
    finite.same_map id_total id_exact (operations_of ys) (operations_of xs)
    (λ q. finite.get-from_entries id_total ys q ∙ same_found xs ys p dx dy q
    ∙ sym (finite.get-from_entries id_total xs q))

-- ---- sorted, they are in order

less : (r : Ordering) → is_gt r ≡ false → is_eq r ≡ false → r ≡ order.Less
less order.Less h g = refl
less order.Equal h g = absurd (true≢false g)
less order.Greater h g = absurd (true≢false h)

abbrev by_id : Operation → Operation → Ordering
by_id e f = id_cmp e.0 f.0

not_above : (b : Bool) → IsTrue (not b) → b ≡ false
not_above false h = refl
not_above true h = absurd (true≢false (sym h))

all_less : (e : Operation) (es : List Operation) → IsTrue (none_below by_id e es)
    → AllByRecursion (λ q. same e.0 q ≡ false) (keys_of es) → AllByRecursion (λ q. id_cmp e.0 q ≡ order.Less)
    (keys_of es)
all_less e [] h apart = tt
all_less e (f ∷ fs) h apart =
    let p = and_parts (not (is_gt (by_id e f))) (none_below by_id e fs) h in
    (less (id_cmp e.0 f.0) (not_above (is_gt (by_id e f)) p.0) apart.0, all_less e fs p.1 apart.1)

strictly : (es : List Operation) → IsTrue (is_rising by_id es) → IsDistinct same (keys_of es)
    → IsStrictlySortedBy id_cmp (keys_of es)
unfolding IsStrictlySortedBy
strictly [] h d = tt
strictly (e ∷ es) h d =
    let p = and_parts (none_below by_id e es) (is_rising by_id es) h in (
      all_less e es p.0 (IsDistinct-head same e.0 (keys_of es) d),
      strictly es p.1 (IsDistinct-tail same e.0 (keys_of es) d),
    )

-- ---- operations that are lent

abbrev lent_by_id : Bor Operation → Bor Operation → Ordering
lent_by_id x y = id_cmp x.now.0 y.now.0

pub lent_total : IsTotalOrder lent_by_id
lent_total = on_total (λ x. x.now.0) id_total

none_below_lent : (x : Bor Operation) (xs : List (Bor Operation)) → none_below lent_by_id x xs
    ≡ none_below by_id x.now (map (λ o. o.now) xs)
none_below_lent x [] = refl
none_below_lent x (y ∷ ys) = ap (λ b. not (is_gt (lent_by_id x y)) && b) (none_below_lent x ys)

rising_lent : (xs : List (Bor Operation)) → is_rising lent_by_id xs ≡ is_rising by_id (map (λ o. o.now) xs)
rising_lent [] = refl
rising_lent (x ∷ xs) = λ i. none_below_lent x xs i && rising_lent xs i

pub sorted_entries : (ops : List Operation) (xs ys : List (Bor Operation)) → HaveDifferentIds ops → map (λ o. o.now) xs
    ≡ ops → IsPermutation xs ys → IsSorted lent_by_id ys → map (λ o. o.now) ys ≡ finite.entries (operations_of ops)
sorted_entries ops xs ys different is p sorted =
    let there = map (λ o. o.now) xs in
    let here = map (λ o. o.now) ys in
    let dx : IsDistinct same (keys_of there) = subst (λ l. IsDistinct same (keys_of l)) (sym is) different in
    let shuffled : IsPermutation there here = IsPermutation-map (λ o. o.now) xs ys p in
    let dy : IsDistinct same (keys_of here) = IsDistinct-IsPermutation same ((eq_by_cmp_equiv id_total).symm)
    (keys_of there) (keys_of here) (IsPermutation-map (λ o. o.0) there here shuffled) dx in
    let rising : IsTrue (is_rising by_id here) = subst IsTrue (rising_lent ys)
    (rising_from_sorted lent_total ys sorted) in
    sym (entries_of here (strictly here rising dy)) ∙ ap finite.entries
    (same_set there here shuffled dx dy ∙ ap operations_of is)

-- ---- what a set lacks

all_kept : (k : OpId) (p : Operation → Bool) (es : List Operation) → AllByRecursion (λ q. id_cmp k q ≡ order.Less)
    (keys_of es) → AllByRecursion (λ q. id_cmp k q ≡ order.Less) (keys_of (filter p es))
all_kept k p [] h = tt
all_kept k p (e ∷ es) h = by (p e) (all_kept k p es h.1)
  where
    by : (b : Bool) → AllByRecursion (λ q. id_cmp k q ≡ order.Less) (keys_of (filter p es))
        → AllByRecursion (λ q. id_cmp k q ≡ order.Less) (keys_of (cond b (e ∷ filter p es) (filter p es)))
    by true more = (h.0, more)
    by false more = more

still_strictly : (p : Operation → Bool) (es : List Operation) → IsStrictlySortedBy id_cmp (keys_of es)
    → IsStrictlySortedBy id_cmp (keys_of (filter p es))
unfolding IsStrictlySortedBy
still_strictly p [] h = tt
still_strictly p (e ∷ es) h = by (p e) (still_strictly p es h.1)
  where
    by : (b : Bool) → IsStrictlySortedBy id_cmp (keys_of (filter p es))
        → IsStrictlySortedBy id_cmp (keys_of (cond b (e ∷ filter p es) (filter p es)))
    by true more = (all_kept e.0 p es h.0, more)
    by false more = more

-- the operations that a summary doesn't cover have different ids
pub lacking_different : (m : Operations) (rs : List IdRange) → HaveDifferentIds (lacking m rs)
lacking_different m rs = IsDistinct-from_sorted id_cmp (keys_of (lacking m rs))
    (still_strictly (λ o. not (covers rs o.0)) (finite.entries m) (ids_rise m))
