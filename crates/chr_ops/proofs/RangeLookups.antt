-- What ranges cover, and how they stand, by look-ups under their first ids.
use Rattle.std.specs.Prelude.{◌≡◌, ℕ, zero, suc, ◌+◌, ◌<◌, ◌≤◌, Bool, true, false, ◌||◌, List, [], ◌∷◌, Some, None}
use Rattle.std.specs.Prelude.{cond, slice_get, map as each, IsSome, length}
use Rattle.std.proofs.Common.{refl, sym, ap, ◌∙◌, arith, ⊎_elim}
use mathlib.Core.Bool.{true≢false}
use Rattle.std.specs.Option.{is_some, unwrap_or}
use Rattle.std.specs.List.{AllByRecursion}
use Rattle.std.specs.List.Sorted.{IsStrictlySortedBy}
use Rattle.std.specs.Map.{keys_of}
use Rattle.std.specs.Ordering.{eq_by_cmp, is_gt, is_lt}
use Rattle.std.specs.declared.cmp.Ordering.TheVariants as order
use Rattle.std.proofs.lemmas.Bool.{cases_lt}
use Rattle.std.proofs.lemmas.Bool.Decides.{nat_tests}
use Rattle.std.proofs.lemmas.Map.Keys.{sorted_head, sorted_tail}
use Rattle.std.proofs.Math.Bool.{or-true}
use Rattle.std.specs.FinMap as map
use Rattle.std.specs.FinMap.{find}
use Rattle.chr_ops.specs.declared.id.OpId.{OpId}
use Rattle.chr_ops.specs.declared.range.IdRange.{IdRange}
use Rattle.chr_ops.specs.Ids.{id_cmp}
use Rattle.chr_ops.specs.Summaries.{in_range, covers, IsBefore, IsApart}
use Rattle.chr_ops.specs.working.Covering.{Ends, end_range, end_ranges, AreDisjoint, AreAsLongAsPossible}
use Rattle.chr_ops.specs.working.Covering.{EndsRightBefore}
use Rattle.chr_ops.proofs.IdOrder.{same_id}
use Rattle.chr_ops.proofs.EntryLists.{place_finds, each_found, ids_rise}

-- a range that has an id
abbrev pub HasOne : Ends → OpId → Type 0
HasOne m q = (k : OpId) × (h : ℕ) × (map.get m k ≡ Some h) × (in_range (end_range (k, h)) q ≡ true)

abbrev EntryHas : List (OpId × ℕ) → OpId → Type 0
EntryHas es q = (i : ℕ) × (e : OpId × ℕ) × (slice_get es i ≡ Some e) × (in_range (end_range e) q ≡ true)

later_has : (e : OpId × ℕ) (es : List (OpId × ℕ)) (q : OpId) → EntryHas es q → EntryHas (e ∷ es) q
later_has e es q (i, f, at, has) = (suc i, f, at, has)

entry_has : (es : List (OpId × ℕ)) (q : OpId) → covers (each end_range es) q ≡ true → EntryHas es q
entry_has [] q h = absurd (true≢false (sym h))
entry_has (e ∷ es) q h = by (in_range (end_range e) q) refl h (λ g. later_has e es q (entry_has es q g))
  where
    by : (b : Bool) → in_range (end_range e) q ≡ b → (b || covers (each end_range es) q) ≡ true
        → (covers (each end_range es) q ≡ true → EntryHas (e ∷ es) q) → EntryHas (e ∷ es) q
    by true is g more = (zero, e, refl, is)
    by false is g more = more g

found_has : (m : Ends) (q : OpId) → EntryHas (map.entries m) q → HasOne m q
found_has m q (i, e, at, has) = (
  e.0,
  e.1,
  map.get-entries m e.0
      ∙ place_finds (map.entries m) i e (map.entries_sorted m) at,
  has,
)

pub covers_has : (m : Ends) (q : OpId) → covers (end_ranges m) q ≡ true → HasOne m q
covers_has m q h = found_has m q (entry_has (map.entries m) q h)

entry_covers : (es : List (OpId × ℕ)) (q k : OpId) (h : ℕ) → find id_cmp k es ≡ Some h → in_range (end_range (k, h)) q
    ≡ true → covers (each end_range es) q ≡ true
entry_covers [] q k h g has = absurd (true≢false (sym (ap is_some g)))
entry_covers (e ∷ es) q k h g has = by (eq_by_cmp id_cmp k e.0) refl g (λ f. entry_covers es q k h f has)
  where
    by : (b : Bool) → eq_by_cmp id_cmp k e.0 ≡ b → cond b (Some e.1) (find id_cmp k es) ≡ Some h
        → (find id_cmp k es ≡ Some h → covers (each end_range es) q ≡ true)
        → (in_range (end_range e) q || covers (each end_range es) q) ≡ true
    by true same f more =
        let key = same_id k e.0 same in
        let last : e.1 ≡ h = ap (λ o. unwrap_or o e.1) f in
        ap (λ b. b || covers (each end_range es) q) (sym
        (ap (λ x. in_range (end_range (x, h)) q) key ∙ ap (λ y. in_range (end_range (e.0, y)) q) (sym last)) ∙ has)
    by false same f more = ap (λ b. in_range (end_range e) q || b) (more f) ∙ or-true (in_range (end_range e) q)

pub has_covers : (m : Ends) (q k : OpId) (h : ℕ) → map.get m k ≡ Some h → in_range (end_range (k, h)) q ≡ true
    → covers (end_ranges m) q ≡ true
has_covers m q k h g has = entry_covers (map.entries m) q k h (sym (map.get-entries m k) ∙ g) has

-- what a range's test says
pub in_origin : (r : IdRange) (q : OpId) → in_range r q ≡ true → r.origin ≡ q.origin
in_origin r q h = grind (arith, nat_tests)

pub in_low : (r : IdRange) (q : OpId) → in_range r q ≡ true → r.lo ≤ q.number
in_low r q h = grind (arith, nat_tests)

pub in_high : (r : IdRange) (q : OpId) → in_range r q ≡ true → q.number ≤ r.hi
in_high r q h = grind (arith, nat_tests)

pub in_from : (r : IdRange) (q : OpId) → r.origin ≡ q.origin → r.lo ≤ q.number → q.number ≤ r.hi → in_range r q ≡ true
in_from r q o l h = grind (arith, nat_tests)

pub same_bool : (a b : Bool) → (a ≡ true → b ≡ true) → (b ≡ true → a ≡ true) → a ≡ b
same_bool true b f g = sym (f refl)
same_bool false true f g = g refl
same_bool false false f g = refl

less_origin : (k l : OpId) → id_cmp k l ≡ order.Less → k.origin ≤ l.origin
less_origin k l h = grind (arith, nat_tests, h)

less_number : (k l : OpId) → id_cmp k l ≡ order.Less → k.origin ≡ l.origin → k.number < l.number
less_number k l h e = grind (arith, nat_tests, h, e)

module _ (m : Ends) (d : AreAsLongAsPossible m) where
  before : (e f : OpId × ℕ) → map.get m e.0 ≡ Some e.1 → map.get m f.0 ≡ Some f.1 → id_cmp e.0 f.0 ≡ order.Less
      → IsBefore (end_range e) (end_range f)
  before e f at_e at_f less = (
    less_origin e.0 f.0 less,
    λ same. (
        let ends = d.disjoint.apart e.0 f.0 e.1 f.1 at_e at_f same (less_number e.0 f.0 less same) in
        ⊎_elim (λ far. far) (λ near. absurd (d.closed f.0
        (e.0, (e.1, at_e, same, omega (arith, ends, near)), ap is_some at_f))) (cases_lt (e.1 + 1) f.0.number)),
  )

  all_before : (e : OpId × ℕ) (fs : List (OpId × ℕ)) → map.get m e.0 ≡ Some e.1
      → AllByRecursion (λ f. map.get m f.0 ≡ Some f.1) fs → AllByRecursion (λ k. id_cmp e.0 k ≡ order.Less) (keys_of fs)
      → AllByRecursion (IsBefore (end_range e)) (each end_range fs)
  all_before e [] at_e at_f less = tt
  all_before e (f ∷ fs) at_e at_f less = (before e f at_e at_f.0 less.0, all_before e fs at_e at_f.1 less.1)

  entries_apart : (es : List (OpId × ℕ)) → AllByRecursion (λ e. map.get m e.0 ≡ Some e.1) es
      → IsStrictlySortedBy id_cmp (keys_of es) → IsApart (each end_range es)
  entries_apart [] at sorted = tt
  entries_apart (e ∷ es) at sorted = (
    (d.disjoint.fits e.0 e.1 at.0).0,
    all_before e es at.0 at.1 (sorted_head id_cmp e.0 (keys_of es) sorted),
    entries_apart es at.1 (sorted_tail id_cmp e.0 (keys_of es) sorted),
  )

  -- ranges that are as long as possible are apart
  pub ranges_apart : IsApart (end_ranges m)
  ranges_apart = entries_apart (map.entries m) (each_found m) (ids_rise m)

from_not_less : (k j : OpId) → is_lt (id_cmp k j) ≡ false → (j.origin ≤ k.origin)
    × (j.origin ≡ k.origin → j.number ≤ k.number)
from_not_less k j h = (grind (arith, nat_tests, h), λ e. grind (arith, nat_tests, h, e))

less_from : (j id : OpId) → j.origin ≡ id.origin → j.number < id.number → id_cmp j id ≡ order.Less
less_from j id e l = grind (arith, nat_tests, e, l)

-- where the last range below an id does not end right before it, none does
pub not_before : (m : Ends) (id k : OpId) (h : ℕ) → AreDisjoint m → map.get m k ≡ Some h → id_cmp k id ≡ order.Less
    → ((q : OpId) → id_cmp q id ≡ order.Less → IsSome (map.get m q) → is_lt (id_cmp k q) ≡ false)
    → (k.origin ≡ id.origin → h + 1 ≡ id.number → ⊥) → (j : OpId) → ¬ (EndsRightBefore m id j)
not_before m id k h d at below last apart j (x, at_j, org, touch) =
    let low = (d.fits j x at_j).0 in
    let less : j.number < id.number = omega (arith, low, touch) in
    let past = from_not_less k j (last j (less_from j id org less) (ap is_some at_j)) in
    let o = less_origin k id below in
    let first = past.0 in
    let same : j.origin ≡ k.origin = omega (arith, first, o, org) in
    let from = past.1 same in
    let upto = less_number k id below (sym same ∙ org) in
    ⊎_elim (λ l. (let far = d.apart j k x h at_j at same l in omega (arith, far, upto, touch)))
    (λ g. (
    let one : j ≡ k = (λ i. record {
      origin = same i;
      number =
          (let n : j.number ≡ k.number = omega (arith, from, g) in n) i;
    }) in
    let last_one : x ≡ h = ap (λ u. unwrap_or u x) (sym at_j ∙ ap (map.get m) one ∙ at) in
    apart (sym same ∙ org) (omega (arith, last_one, touch)))) (cases_lt j.number k.number)

-- where no range begins below an id, none ends right before it
pub none_below : (m : Ends) (id : OpId) → AreDisjoint m → ((q : OpId) → id_cmp q id ≡ order.Less → map.get m q ≡ None)
    → (j : OpId) → ¬ (EndsRightBefore m id j)
none_below m id d none j (x, at_j, org, touch) =
    let low = (d.fits j x at_j).0 in
    true≢false (sym (ap is_some at_j) ∙ ap is_some (none j (less_from j id org (omega (arith, low, touch)))))

pub up_to : (k id : OpId) → is_gt (id_cmp k id) ≡ false → (k.origin ≤ id.origin)
    × (k.origin ≡ id.origin → k.number ≤ id.number)
up_to k id h = (grind (arith, nat_tests, h), λ e. grind (arith, nat_tests, h, e))

not_past : (j id : OpId) → j.origin ≡ id.origin → j.number ≤ id.number → is_gt (id_cmp j id) ≡ false
not_past j id e l = grind (arith, nat_tests, e, l)

-- an id that is covered is in the last range that begins up to it
module _ (m : Ends) (d : AreDisjoint m) (id : OpId) where
  pub in_last : (k : OpId) (h : ℕ) → map.get m k ≡ Some h → is_gt (id_cmp k id) ≡ false
      → ((q : OpId) → is_gt (id_cmp q id) ≡ false → IsSome (map.get m q) → is_lt (id_cmp k q) ≡ false)
      → covers (end_ranges m) id ≡ true → (k.origin ≡ id.origin) × (id.number ≤ h)
  in_last k h at first last covered = by (covers_has m id covered)
    where
      by : HasOne m id → (k.origin ≡ id.origin) × (id.number ≤ h)
      by (j, x, at_j, has) =
          let org : j.origin ≡ id.origin = in_origin (end_range (j, x)) id has in
          let low : j.number ≤ id.number = in_low (end_range (j, x)) id has in
          let high : id.number ≤ x = in_high (end_range (j, x)) id has in
          let past = from_not_less k j (last j (not_past j id org low) (ap is_some at_j)) in
          let from = past.0 in
          let upto = (up_to k id first).0 in
          let same : j.origin ≡ k.origin = omega (arith, from, upto, org) in
          let later : j.number ≤ k.number = past.1 same in
          let below : k.number ≤ id.number = (up_to k id first).1 (sym same ∙ org) in
          ⊎_elim (λ l. (let far = d.apart j k x h at_j at same l in absurd (omega (arith, far, below, high))))
          (λ g. (
          let one : j ≡ k = (λ i. record {
            origin = same i;
            number =
                (let n : j.number ≡ k.number = omega (arith, later, g) in n) i;
          }) in
          let last_one : x ≡ h = ap (λ u. unwrap_or u x) (sym at_j ∙ ap (map.get m) one ∙ at) in
          (sym same ∙ org, omega (arith, last_one, high)))) (cases_lt j.number k.number)

  pub in_none : ((q : OpId) → is_gt (id_cmp q id) ≡ false → map.get m q ≡ None) → covers (end_ranges m) id ≡ false
  in_none none = by (covers (end_ranges m) id) refl
    where
      by : (b : Bool) → covers (end_ranges m) id ≡ b → b ≡ false
      by false e = refl
      by true e = absurd (nowhere (covers_has m id e))
        where
          nowhere : HasOne m id → ⊥
          nowhere (j, x, at_j, has) = (
              let range = end_range (j, x) in
              let up = not_past j id (in_origin range id has) (in_low range id has) in
              true≢false (sym (ap is_some at_j) ∙ ap is_some (none j up))
              )

  pub from_last : (k : OpId) (h : ℕ) → map.get m k ≡ Some h → is_gt (id_cmp k id) ≡ false → k.origin ≡ id.origin
      → id.number ≤ h
      → covers (end_ranges m) id ≡ true
  from_last k h at first same high = has_covers m id k h at
      (in_from (end_range (k, h)) id same ((up_to k id first).1 same) high)

no_entries : (es : List (OpId × ℕ)) → length es ≡ 0 → es ≡ []
no_entries [] h = refl
no_entries (e ∷ es) h = absurd (omega (arith, h))

pub ranges_none : end_ranges map.empty ≡ []
ranges_none = ap (each end_range) (no_entries (map.entries map.empty)
    (sym (map.len-entries map.empty) ∙ map.len-empty id_cmp ℕ))

nothing : Ends
nothing = map.empty

none_at : (q : OpId) (x : ℕ) → map.get nothing q ≡ Some x → ⊥
unfolding nothing
none_at q x e = true≢false (sym (ap is_some e) ∙ ap is_some (map.get-empty id_cmp q))

pub longest_none : AreAsLongAsPossible map.empty
unfolding nothing
longest_none = record {
  disjoint = record { fits = λ k h e. absurd (none_at k h e); apart = λ k l h g e. absurd (none_at k h e) };
  closed = λ q s. none_at s.0 s.1.0 s.1.1;
}
