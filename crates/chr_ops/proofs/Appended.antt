-- Entries in the order of ids: where an id stands among them, and what is put in or taken out.
use Rattle.std.specs.Prelude.{◌≡◌, ℕ, zero, suc, ◌+◌, ◌-◌, ◌<◌, ◌≤◌, Bool, true, false, ◌&&◌, List, [], ◌∷◌, ◌++◌}
use Rattle.std.specs.Prelude.{Some, None, cond, length, take, drop, slice_index_or, slice_range}
use Rattle.std.proofs.Common.{refl, sym, ap, ◌∙◌, subst, arith, append_assoc, append-nil}
use mathlib.Core.Bool.{true≢false}
use Rattle.std.specs.Option.{is_some}
use Rattle.std.specs.declared.cmp.Ordering.{Ordering}
use Rattle.std.specs.declared.cmp.Ordering.TheVariants.{Less, Equal, Greater}
use Rattle.std.specs.Ordering.{eq_by_cmp, is_eq, is_lt, match_ordering}
use Rattle.std.specs.Cmp.{eq_by_cmp_equiv, tied_itself}
use Rattle.std.specs.Map.{keys_of, remove_entry}
use Rattle.std.specs.List.{All, AllByRecursion, AllWithin, prefix_len}
use Rattle.std.specs.List.Sorted.{IsStrictlySortedBy, IsPartitionedBy}
use Rattle.std.specs.BTreeMap.{is_at, insert_entry}
use Rattle.std.specs.FinMap as map
use Rattle.std.specs.FinMap.{find, put}
use Rattle.std.specs.FinMap.Entries.{below_all, by_order, find-put, is_sorted-put}
use Rattle.std.proofs.lemmas.Bool.Decides.{nat_tests}
use Rattle.std.proofs.lemmas.List.Elements.{filter-append, recursion_from_All}
use Rattle.std.proofs.lemmas.Map.Keys.{sorted_head, sorted_tail, IsDistinct-from_sorted}
use Rattle.std.proofs.lemmas.Map.{lookup-remove_entry}
use Rattle.chr_base.specs.Stores.{Store}
use Rattle.chr_ops.specs.declared.id.OpId.{OpId}
use Rattle.chr_ops.specs.declared.range.IdRange.{IdRange}
use Rattle.chr_ops.specs.Ids.{id_cmp}
use Rattle.chr_ops.specs.Operations.{Operation, operations_of}
use Rattle.chr_ops.specs.Summaries.{in_range}
use Rattle.chr_ops.specs.working.Entries.{Rise, AllBefore, IsPlaceOf, bag_under, is_before, is_up_to}
use Rattle.chr_ops.specs.working.Walks.{first_id, last_id, within}
use Rattle.chr_ops.proofs.IdOrder.{id_total, id_exact, same_id}
use Rattle.chr_ops.proofs.EntryLists.{sorted_from, ids_sorted, one_removed, get_value, entries_of}

-- facts of the order of ids
less_on : (a b c : OpId) → id_cmp a b ≡ Less → id_cmp b c ≡ Less → id_cmp a c ≡ Less
less_on a b c h g = id_total.trans a b c h g

before_is_less : (a b : OpId) → is_lt (id_cmp a b) ≡ true → id_cmp a b ≡ Less
before_is_less a b h = grind (arith, nat_tests, h)

before_apart : (a b : OpId) → is_lt (id_cmp a b) ≡ true → is_eq (id_cmp b a) ≡ false
before_apart a b h = grind (arith, nat_tests, h)

neither_behind : (a b : OpId) → is_lt (id_cmp a b) ≡ false → is_eq (id_cmp b a) ≡ false → id_cmp b a ≡ Less
neither_behind a b h g = grind (arith, nat_tests, h, g)

-- a test that no id passes after one that fails it
abbrev IsDown : (OpId → Bool) → Type 0
IsDown p = (a b : OpId) → id_cmp a b ≡ Less → p b ≡ true → p a ≡ true

pub down_before : (id : OpId) → IsDown (is_before id)
down_before id a b h g = grind (arith, nat_tests, h, g)

pub down_up_to : (id : OpId) → IsDown (is_up_to id)
down_up_to id a b h g = grind (arith, nat_tests, h, g)

pub each_at : (P : OpId → Type 0) (os : List Operation) → AllByRecursion P (keys_of os) → (j : ℕ) (d : Operation)
    → j < length os → P (slice_index_or os j d).0
each_at P [] h j d l = absurd (omega (arith, l))
each_at P (o ∷ os) h zero d l = h.0
each_at P (o ∷ os) h (suc j) d l = each_at P os h.1 j d (omega (arith, l))

pub partitioned : (p : OpId → Bool) → IsDown p → (os : List Operation) → Rise os → IsPartitionedBy (λ o. p o.0) os
partitioned p down [] rise i j d le l h = absurd (omega (arith, l))
partitioned p down (o ∷ os) rise zero zero d le l h = h
partitioned p down (o ∷ os) rise zero (suc j) d le l h =
    down o.0 (slice_index_or os j d).0
    (each_at (λ k. id_cmp o.0 k ≡ Less) os (sorted_head id_cmp o.0 (keys_of os) rise) j d (omega (arith, l))) h
partitioned p down (o ∷ os) rise (suc i) zero d le l h = absurd (omega (arith, le))
partitioned p down (o ∷ os) rise (suc i) (suc j) d le l h =
    partitioned p down os (sorted_tail id_cmp o.0 (keys_of os) rise) i j d (omega (arith, le)) (omega (arith, l)) h

-- how many entries stand before the first whose id does not pass, by a clause that computes
abbrev pub count_while : (OpId → Bool) → List Operation → ℕ
count_while p [] = 0
count_while p (o ∷ os) = cond (p o.0) (suc (count_while p os)) 0

pub count_prefix : (p : OpId → Bool) (os : List Operation) → count_while p os ≡ prefix_len (λ o. p o.0) os
count_prefix p [] = refl
count_prefix p (o ∷ os) =
    let rest = count_prefix p os in
    let one_more : suc (count_while p os) ≡ 1 + prefix_len (λ e. p e.0) os = omega (arith, rest) in
    ap (λ n. cond (p o.0) n 0) one_more

-- where a test changes is how many pass it first
pub counted : (p : OpId → Bool) (os : List Operation) (i : ℕ) → i ≤ length os → AllWithin (λ o. p o.0 ≡ true) os 0 i
    → AllWithin (λ o. p o.0 ≡ false) os i (length os) → i ≡ count_while p os
counted p [] i le pass fail = omega (arith, le)
counted p (o ∷ os) zero le pass fail =
    sym (ap (λ b. cond b (suc (count_while p os)) 0) (fail 0 o (omega arith) (omega arith)))
counted p (o ∷ os) (suc i) le pass fail =
    ap suc (counted p os i (omega (arith, le)) (λ k d g l. pass (suc k) d (omega arith) (omega (arith, l)))
    (λ k d g l. fail (suc k) d (omega (arith, g)) (omega (arith, l))))
    ∙ sym (ap (λ b. cond b (suc (count_while p os)) 0) (pass 0 o (omega arith) (omega arith)))

pub counted_inside : (p : OpId → Bool) (os : List Operation) → count_while p os ≤ length os
counted_inside p [] = omega arith
counted_inside p (o ∷ os) = by (p o.0) (counted_inside p os)
  where
    by : (b : Bool) → count_while p os ≤ length os → cond b (suc (count_while p os)) 0 ≤ suc (length os)
    by true le = omega (arith, le)
    by false le = omega arith

-- no id stands among entries that come after it
all_behind : (id : OpId) (os : List Operation) → AllByRecursion (λ k. id_cmp id k ≡ Less) (keys_of os)
    → bag_under os id ≡ None
all_behind id [] h = refl
all_behind id (o ∷ os) h = ap (λ r. cond (is_eq r) (Some o.1) (bag_under os id)) h.0 ∙ all_behind id os h.1

pub all_on : (a b : OpId) (os : List Operation) → id_cmp a b ≡ Less
    → AllByRecursion (λ k. id_cmp b k ≡ Less) (keys_of os)
    → AllByRecursion (λ k. id_cmp a k ≡ Less) (keys_of os)
all_on a b [] l h = tt
all_on a b (o ∷ os) l h = (less_on a b o.0 l h.0, all_on a b os l h.1)

behind_first : (o : Operation) (os : List Operation) (id : OpId) → Rise (o ∷ os) → id_cmp id o.0 ≡ Less
    → bag_under os id ≡ None
behind_first o os id rise l = all_behind id os (all_on id o.0 os l (sorted_head id_cmp o.0 (keys_of os) rise))

at_self : (a b : OpId) → a ≡ b → is_eq (id_cmp b a) ≡ true
at_self a b e = ap is_eq (ap (id_cmp b) e ∙ tied_itself id_total b)

greater : (a b : OpId) → id_cmp a b ≡ Less → id_cmp b a ≡ Greater
greater a b h = grind (arith, nat_tests, h)

none_is : {X : Type 0} (x : X) → Some x ≡ None → ⊥
none_is x e = true≢false (ap is_some e)

fails : (b : Bool) → (b ≡ true → ⊥) → b ≡ false
fails true h = absurd (h refl)
fails false h = refl

module _ (id : OpId) where
  abbrev test : OpId → Bool
  test k = is_at (id_cmp id) k

  abbrev place : List Operation → ℕ
  place os = count_while (is_before id) os

  -- what stands at the place of an id, where it is there
  pub place_there : (os : List Operation) (i : ℕ) → Rise os → i ≡ place os → i < length os
      → ((d : Operation) → (slice_index_or os i d).0 ≡ id) → IsPlaceOf os id i
  place_there [] i rise is l same = absurd (omega (arith, l))
  place_there (o ∷ os) zero rise is l same =
      let at = at_self o.0 id (same o) in
      record {
        inside = l;
        found = λ d. ap (λ b. cond b (Some o.1) (bag_under os id)) at;
        removed = sym (ap (λ b. cond b os (o ∷ remove_entry test os)) at);
      }
  place_there (o ∷ os) (suc i) rise is l same = by (λ at. place_there os i (sorted_tail id_cmp o.0 (keys_of os) rise) at
      (omega (arith, l)) (λ d. same d)) (is_before id o.0) refl is
    where
      by : (i ≡ place os → IsPlaceOf os id i) → (b : Bool) → is_before id o.0 ≡ b
          → suc i ≡ cond b (suc (place os)) 0 → IsPlaceOf (o ∷ os) id (suc i)
      by later true e is =
          let rest = later (omega (arith, is)) in
          let apart = before_apart o.0 id e in
          record {
            inside = l;
            found = λ d. ap (λ b. cond b (Some o.1) (bag_under os id)) apart ∙ rest.found d;
            removed = ap (λ xs. o ∷ xs) rest.removed ∙ sym (ap (λ b. cond b os (o ∷ remove_entry test os)) apart);
          }
      by later false e is = absurd (omega (arith, is))

  -- where an id is not at its place, it is not there at all
  pub place_none : (os : List Operation) (i : ℕ) → Rise os → i ≡ place os
      → ((d : Operation) → i < length os → is_eq (id_cmp id (slice_index_or os i d).0) ≡ false) → bag_under os id ≡ None
  place_none [] i rise is apart = refl
  place_none (o ∷ os) zero rise is apart = by (is_before id o.0) refl is
    where
      by : (b : Bool) → is_before id o.0 ≡ b → 0 ≡ cond b (suc (place os)) 0 → bag_under (o ∷ os) id ≡ None
      by true e is = absurd (omega (arith, is))
      by false e is =
          let other = apart o (omega arith) in
          ap (λ b. cond b (Some o.1) (bag_under os id)) other
          ∙ behind_first o os id rise (neither_behind o.0 id e other)
  place_none (o ∷ os) (suc i) rise is apart = by (λ at. place_none os i (sorted_tail id_cmp o.0 (keys_of os) rise) at
      (λ d l. apart d (omega (arith, l)))) (is_before id o.0) refl is
    where
      by : (i ≡ place os → bag_under os id ≡ None) → (b : Bool) → is_before id o.0 ≡ b
          → suc i ≡ cond b (suc (place os)) 0 → bag_under (o ∷ os) id ≡ None
      by later true e is =
          ap (λ b. cond b (Some o.1) (bag_under os id)) (before_apart o.0 id e) ∙ later (omega (arith, is))
      by later false e is = absurd (omega (arith, is))

  below_true : (os : List Operation) → AllByRecursion (λ k. id_cmp id k ≡ Less) (keys_of os) → below_all id_cmp id os
      ≡ true
  below_true [] h = refl
  below_true (o ∷ os) h = ap (λ r. is_lt r && below_all id_cmp id os) h.0 ∙ below_true os h.1

  -- an id comes before entries in order if it comes before the first
  pub below_first : (os : List Operation) (d : Operation) → Rise os → 0 < length os → below_all id_cmp id os
      ≡ is_lt (id_cmp id (slice_index_or os 0 d).0)
  below_first [] d rise l = absurd (omega (arith, l))
  below_first (o ∷ os) d rise l = by (is_lt (id_cmp id o.0)) refl
    where
      by : (b : Bool) → is_lt (id_cmp id o.0) ≡ b → (b && below_all id_cmp id os) ≡ b
      by true e = below_true os
          (all_on id o.0 os (before_is_less id o.0 e) (sorted_head id_cmp o.0 (keys_of os) rise))
      by false e = refl

  -- none of the entries that an id comes before has that id
  pub below_none : (os : List Operation) → below_all id_cmp id os ≡ true → bag_under os id ≡ None
  below_none [] h = refl
  below_none (o ∷ os) h = by (below_none os) (id_cmp id o.0) h
    where
      by : (below_all id_cmp id os ≡ true → bag_under os id ≡ None) → (r : Ordering)
          → (is_lt r && below_all id_cmp id os) ≡ true
          → cond (is_eq r) (Some o.1) (bag_under os id) ≡ None
      by later Less g = later g
      by later Equal g = absurd (true≢false (sym g))
      by later Greater g = absurd (true≢false (sym g))

  back_all : (P : OpId → Type 0) (es fs : List Operation) → AllByRecursion P (keys_of (es ++ fs))
      → AllByRecursion P (keys_of fs)
  back_all P [] fs h = h
  back_all P (e ∷ es) fs h = back_all P es fs h.1

  -- where entries in order are parted, and an id does not come before all behind, none of those in front has it
  pub front_none : (es fs : List Operation) → Rise (es ++ fs) → below_all id_cmp id fs ≡ false → bag_under es id ≡ None
  front_none [] fs rise h = refl
  front_none (e ∷ es) fs rise h = by (front_none es fs (sorted_tail id_cmp e.0 (keys_of (es ++ fs)) rise) h) (test e.0)
      refl
    where
      by : bag_under es id ≡ None → (b : Bool) → test e.0 ≡ b → cond b (Some e.1) (bag_under es id) ≡ None
      by later false f = later
      by before true f =
          let later = back_all (λ k. id_cmp e.0 k ≡ Less) es fs (sorted_head id_cmp e.0 (keys_of (es ++ fs)) rise) in
          let here = subst (λ a. AllByRecursion (λ k. id_cmp a k ≡ Less) (keys_of fs)) (sym (same_id id e.0 f)) later in
          absurd (true≢false (sym (below_true fs here) ∙ h))

  -- where an id is among the first entries or the last
  pub found_front : (es fs : List Operation) → bag_under fs id ≡ None → bag_under (es ++ fs) id ≡ bag_under es id
  found_front [] fs h = h
  found_front (e ∷ es) fs h = ap (cond (test e.0) (Some e.1)) (found_front es fs h)

  pub found_back : (es fs : List Operation) → bag_under es id ≡ None → bag_under (es ++ fs) id ≡ bag_under fs id
  found_back [] fs h = refl
  found_back (e ∷ es) fs h = by (found_back es fs) (test e.0) h
    where
      by : (bag_under es id ≡ None → bag_under (es ++ fs) id ≡ bag_under fs id) → (b : Bool)
          → cond b (Some e.1) (bag_under es id) ≡ None
          → cond b (Some e.1) (bag_under (es ++ fs) id) ≡ bag_under fs id
      by later true g = absurd (none_is e.1 g)
      by later false g = later g

  -- what is taken out of entries under an id, where it is not there
  pub removed_none : (os : List Operation) → bag_under os id ≡ None → remove_entry test os ≡ os
  removed_none [] h = refl
  removed_none (o ∷ os) h = by (removed_none os) (test o.0) h
    where
      by : (bag_under os id ≡ None → remove_entry test os ≡ os) → (b : Bool)
          → cond b (Some o.1) (bag_under os id) ≡ None
          → cond b os (o ∷ remove_entry test os) ≡ o ∷ os
      by later true g = absurd (none_is o.1 g)
      by later false g = ap (λ xs. o ∷ xs) (later g)

  pub removed_front : (es fs : List Operation) → bag_under fs id ≡ None → remove_entry test (es ++ fs)
      ≡ remove_entry test es ++ fs
  removed_front [] fs h = removed_none fs h
  removed_front (e ∷ es) fs h = elim (test e.0) as (λ b.
      cond b (es ++ fs) (e ∷ remove_entry test (es ++ fs)) ≡ cond b es (e ∷ remove_entry test es) ++ fs)
      [ true ↦ refl | false ↦ ap (λ xs. e ∷ xs) (removed_front es fs h) ]

  pub removed_back : (es fs : List Operation) → bag_under es id ≡ None → remove_entry test (es ++ fs)
      ≡ es ++ remove_entry test fs
  removed_back [] fs h = refl
  removed_back (e ∷ es) fs h = by (removed_back es fs) (test e.0) h
    where
      by : (bag_under es id ≡ None → remove_entry test (es ++ fs) ≡ es ++ remove_entry test fs) → (b : Bool)
          → cond b (Some e.1) (bag_under es id) ≡ None
          → cond b (es ++ fs) (e ∷ remove_entry test (es ++ fs)) ≡ e ∷ (es ++ remove_entry test fs)
      by later true g = absurd (none_is e.1 g)
      by later false g = ap (λ xs. e ∷ xs) (later g)

  left_all : (P : OpId → Type 0) (os : List Operation) → AllByRecursion P (keys_of os)
      → AllByRecursion P (keys_of (remove_entry test os))
  left_all P [] h = tt
  left_all P (o ∷ os) h = elim (test o.0) as (λ b. AllByRecursion P (keys_of (cond b os (o ∷ remove_entry test os))))
      [ true ↦ h.1 | false ↦ (h.0, left_all P os h.1) ]

  pub rise_left : (os : List Operation) → Rise os → Rise (remove_entry test os)
  unfolding IsStrictlySortedBy
  rise_left [] h = tt
  rise_left (o ∷ os) h = elim (test o.0) as (λ b. Rise (cond b os (o ∷ remove_entry test os)))
      [ true ↦ h.1 | false ↦ (left_all (λ k. id_cmp o.0 k ≡ Less) os h.0, rise_left os h.1) ]

  pub map_left : (os : List Operation) → Rise os → operations_of (remove_entry test os)
      ≡ map.remove (operations_of os) id
  map_left os rise = one_removed os (remove_entry test os) id (λ q.
      lookup-remove_entry (eq_by_cmp_equiv id_total) test
      (λ x y e. ap (λ k. is_eq (id_cmp k y)) (same_id id x e)) q os (IsDistinct-from_sorted id_cmp (keys_of os) rise))

  module _ (bag : Store) where
    abbrev put_in : List Operation → List Operation
    put_in os = insert_entry id_cmp os id bag

    as_put : (os : List Operation) → put_in os ≡ put id_cmp id bag os
    as_put [] = refl
    as_put (o ∷ os) = elim (id_cmp id o.0) as (λ r.
        match_ordering r ((id, bag) ∷ o ∷ os) ((o.0, bag) ∷ os) (o ∷ put_in os)
        ≡ by_order r ((id, bag) ∷ o ∷ os) ((o.0, bag) ∷ os) (o ∷ put id_cmp id bag os))
        [ Less ↦ refl | Equal ↦ refl | Greater ↦ ap (λ xs. o ∷ xs) (as_put os) ]

    -- entries stay in order where an id is put in among them
    pub rise_put : (os : List Operation) → Rise os → Rise (put_in os)
    rise_put os rise = subst Rise (sym (as_put os))
        (ids_sorted (put id_cmp id bag os) (is_sorted-put id_cmp id_total id bag os (sorted_from os rise)))

    pub map_put : (os : List Operation) → operations_of (put_in os) ≡ map.insert (operations_of os) id bag
    map_put os = map.same_map id_total id_exact _ _ (λ q.
        map.get-from_entries id_total (put_in os) q ∙ ap (find id_cmp q) (as_put os)
        ∙ find-put id_cmp id_total q id bag os
        ∙ sym (map.get-insert id_total (operations_of os) id bag q
        ∙ ap (cond (eq_by_cmp id_cmp q id) (Some bag)) (map.get-from_entries id_total os q)))

    pub put_front : (es fs : List Operation) → below_all id_cmp id fs ≡ true → put_in (es ++ fs) ≡ put_in es ++ fs
    put_front [] [] h = refl
    put_front [] (f ∷ fs) h = by (id_cmp id f.0) h
      where
        by : (r : Ordering) → (is_lt r && below_all id_cmp id fs) ≡ true
            → match_ordering r ((id, bag) ∷ f ∷ fs) ((f.0, bag) ∷ fs) (f ∷ put_in fs) ≡ (id, bag) ∷ f ∷ fs
        by Less g = refl
        by Equal g = absurd (true≢false (sym g))
        by Greater g = absurd (true≢false (sym g))
    put_front (e ∷ es) fs h = elim (id_cmp id e.0) as (λ r.
        match_ordering r ((id, bag) ∷ e ∷ (es ++ fs)) ((e.0, bag) ∷ (es ++ fs)) (e ∷ put_in (es ++ fs))
        ≡ match_ordering r ((id, bag) ∷ e ∷ es) ((e.0, bag) ∷ es) (e ∷ put_in es) ++ fs)
        [ Less ↦ refl | Equal ↦ refl | Greater ↦ ap (λ xs. e ∷ xs) (put_front es fs h) ]

    pub put_last : (os : List Operation) → AllBefore os id → put_in os ≡ os ++ (id, bag) ∷ []
    put_last [] h = refl
    put_last (o ∷ os) h =
        ap (λ r. match_ordering r ((id, bag) ∷ o ∷ os) ((o.0, bag) ∷ os) (o ∷ put_in os)) (greater o.0 id h.0)
        ∙ ap (λ xs. o ∷ xs) (put_last os h.1)

    middle : (es fs : List Operation) → Rise (es ++ (id, bag) ∷ fs) → AllBefore es id
    middle [] fs rise = tt
    middle (e ∷ es) fs rise =
        let later = sorted_head id_cmp e.0 (keys_of (es ++ (id, bag) ∷ fs)) rise in (
          (back_all (λ k. id_cmp e.0 k ≡ Less) es ((id, bag) ∷ fs) later).0,
          middle es fs (sorted_tail id_cmp e.0 (keys_of (es ++ (id, bag) ∷ fs)) rise),
        )

    -- to move the first of the last entries behind the first ones changes nothing
    pub moved : (es fs : List Operation) → Rise (es ++ (id, bag) ∷ fs) → put_in es ++ fs ≡ es ++ (id, bag) ∷ fs
    moved es fs rise = ap (λ xs. xs ++ fs) (put_last es (middle es fs rise)) ∙ append_assoc es ((id, bag) ∷ []) fs

  last_before : (os : List Operation) (i : ℕ) (d : Operation) → Rise os → i + 1 ≡ length os
      → is_lt (id_cmp (slice_index_or os i d).0 id) ≡ true → AllBefore os id
  last_before [] i d rise l h = tt
  last_before (o ∷ []) zero d rise l h = (before_is_less o.0 id h, tt)
  last_before (o ∷ []) (suc i) d rise l h = absurd (omega (arith, l))
  last_before (o ∷ p ∷ os) zero d rise l h = absurd (omega (arith, l))
  last_before (o ∷ p ∷ os) (suc i) d rise l h =
      let rest = last_before (p ∷ os) i d (sorted_tail id_cmp o.0 (keys_of (p ∷ os)) rise) (omega (arith, l)) h in
      (less_on o.0 p.0 id (sorted_head id_cmp o.0 (keys_of (p ∷ os)) rise).0 rest.0, rest)

  -- all entries come before an id if the last does
  pub all_before_last : (os : List Operation) (d : Operation) → Rise os → 0 < length os
      → is_lt (id_cmp (slice_index_or os (length os - 1) d).0 id) ≡ true → AllBefore os id
  all_before_last os d rise l h = last_before os (length os - 1) d rise (omega (arith, l)) h

  up_to_before : (k q : OpId) → is_lt (id_cmp k q) ≡ false → is_lt (id_cmp k id) ≡ true → id_cmp q id ≡ Less
  up_to_before k q h g = grind (arith, nat_tests, h, g)

  up_to_all : (k : OpId) (os : List Operation) → AllByRecursion (λ q. is_lt (id_cmp k q) ≡ false) (keys_of os)
      → is_lt (id_cmp k id) ≡ true → AllBefore os id
  up_to_all k [] h g = tt
  up_to_all k (o ∷ os) h g = (up_to_before k o.0 h.0 g, up_to_all k os h.1 g)

  -- all entries come before an id if one does that comes before none of them
  pub all_up_to : (k : OpId) (es fs : List Operation) → All (λ q. is_lt (id_cmp k q) ≡ false) (keys_of es)
      → is_lt (id_cmp k id) ≡ true → ¬ (0 < length fs) → AllBefore (es ++ fs) id
  all_up_to k es [] h g l = subst (λ os. AllBefore os id) (sym (append-nil es))
      (up_to_all k es (recursion_from_All (λ q. is_lt (id_cmp k q) ≡ false) (keys_of es) h) g)
  all_up_to k es (f ∷ fs) h g l = absurd (l (omega arith))

  not_empty : (es fs : List Operation) → 0 < length fs → 0 < length (es ++ fs)
  not_empty [] fs l = l
  not_empty (e ∷ es) fs l = omega arith

  over_first : (e : Operation) (os : List Operation) → 0 < length os
      → AllByRecursion (λ k. id_cmp e.0 k ≡ Less) (keys_of os) → AllBefore os id → id_cmp e.0 id ≡ Less
  over_first e [] l h g = absurd (omega (arith, l))
  over_first e (o ∷ os) l h g = less_on e.0 o.0 id h.0 g.0

  -- all entries come before an id if the last ones do
  pub before_too : (es fs : List Operation) → Rise (es ++ fs) → 0 < length fs → AllBefore fs id
      → AllBefore (es ++ fs) id
  before_too [] fs rise l h = h
  before_too (e ∷ es) fs rise l h =
      let rest = before_too es fs (sorted_tail id_cmp e.0 (keys_of (es ++ fs)) rise) l h in
      (over_first e (es ++ fs) (not_empty es fs l) (sorted_head id_cmp e.0 (keys_of (es ++ fs)) rise) rest, rest)

-- the parts of entries in order are in order
pub rise_back : (es fs : List Operation) → Rise (es ++ fs) → Rise fs
rise_back [] fs rise = rise
rise_back (e ∷ es) fs rise = rise_back es fs (sorted_tail id_cmp e.0 (keys_of (es ++ fs)) rise)

-- fewer pass a test that is harder
pub counted_less : (p q : OpId → Bool) → ((k : OpId) → p k ≡ true → q k ≡ true) → (os : List Operation)
    → count_while p os ≤ count_while q os
counted_less p q more [] = omega arith
counted_less p q more (o ∷ os) = by (p o.0) (q o.0) refl refl (counted_less p q more os)
  where
    by : (b c : Bool) → p o.0 ≡ b → q o.0 ≡ c → count_while p os ≤ count_while q os
        → cond b (suc (count_while p os)) 0 ≤ cond c (suc (count_while q os)) 0
    by true true e f le = omega (arith, le)
    by true false e f le = absurd (true≢false (sym (more o.0 e) ∙ f))
    by false c e f le = omega arith

fail_on : (p : OpId → Bool) → IsDown p → (a : OpId) (os : List Operation) → p a ≡ false
    → AllByRecursion (λ k. id_cmp a k ≡ Less) (keys_of os) → AllByRecursion (λ k. p k ≡ false) (keys_of os)
fail_on p down a [] e h = tt
fail_on p down a (o ∷ os) e h =
    (fails (p o.0) (λ f. true≢false (sym (down a o.0 h.0 f) ∙ e)), fail_on p down a os e h.1)

-- the operations of a range stand between those before its first id and those behind its last
module _ (r : IdRange) (holds : r.lo ≤ r.hi) where
  abbrev starts : OpId → Bool
  starts k = is_before (first_id r) k

  abbrev ends : OpId → Bool
  ends k = is_up_to (last_id r) k

  pub start_is_up_to : (k : OpId) → starts k ≡ true → ends k ≡ true
  start_is_up_to k h = grind (arith, nat_tests, h, holds)

  before_out : (k : OpId) → starts k ≡ true → in_range r k ≡ false
  before_out k h = grind (arith, nat_tests, h)

  behind_out : (k : OpId) → ends k ≡ false → in_range r k ≡ false
  behind_out k h = grind (arith, nat_tests, h)

  between_in : (k : OpId) → starts k ≡ false → ends k ≡ true → in_range r k ≡ true
  between_in k h g = grind (arith, nat_tests, h, g)

  all_out : (os : List Operation) → AllByRecursion (λ k. ends k ≡ false) (keys_of os) → within r os ≡ []
  all_out [] h = refl
  all_out (o ∷ os) h = ap (λ b. cond b (o ∷ within r os) (within r os)) (behind_out o.0 h.0) ∙ all_out os h.1

  taken : (os : List Operation) → Rise os → AllByRecursion (λ k. starts k ≡ false) (keys_of os)
      → take (count_while ends os) os ≡ within r os
  taken [] rise h = refl
  taken (o ∷ os) rise h = by (taken os (sorted_tail id_cmp o.0 (keys_of os) rise) h.1) (ends o.0) refl
    where
      by : take (count_while ends os) os ≡ within r os → (b : Bool) → ends o.0 ≡ b
          → take (cond b (suc (count_while ends os)) 0) (o ∷ os) ≡ within r (o ∷ os)
      by later true e = ap (λ xs. o ∷ xs) later
          ∙ sym (ap (λ b. cond b (o ∷ within r os) (within r os)) (between_in o.0 h.0 e))
      by later false e = sym (all_out (o ∷ os)
          (e, fail_on ends (down_up_to (last_id r)) o.0 os e (sorted_head id_cmp o.0 (keys_of os) rise)))

  pub between_counts : (os : List Operation) → Rise os
      → slice_range os (count_while starts os) (count_while ends os) ≡ within r os
  between_counts [] rise = refl
  between_counts (o ∷ os) rise = by (between_counts os (sorted_tail id_cmp o.0 (keys_of os) rise)) (starts o.0)
      (ends o.0) refl refl
    where
      from_first : (b : Bool) → ends o.0 ≡ b → starts o.0 ≡ false
          → take (cond b (suc (count_while ends os)) 0 - 0) (o ∷ os) ≡ within r (o ∷ os)
      from_first b f e =
          let whole : cond b (suc (count_while ends os)) 0 - 0 ≡ cond b (suc (count_while ends os)) 0 = omega arith in
          ap (λ n. take n (o ∷ os)) whole
          ∙ ap (λ c. take (cond c (suc (count_while ends os)) 0) (o ∷ os)) (sym f)
          ∙ taken (o ∷ os) rise
          (e, fail_on starts (down_before (first_id r)) o.0 os e (sorted_head id_cmp o.0 (keys_of os) rise))

      by : slice_range os (count_while starts os) (count_while ends os) ≡ within r os → (b c : Bool) → starts o.0 ≡ b
          → ends o.0 ≡ c
          → slice_range (o ∷ os) (cond b (suc (count_while starts os)) 0) (cond c (suc (count_while ends os)) 0)
          ≡ within r (o ∷ os)
      by later true true e f =
          let one_less : suc (count_while ends os) - suc (count_while starts os)
          ≡ count_while ends os - count_while starts os = omega arith in
          ap (λ n. take n (drop (count_while starts os) os)) one_less
          ∙ later
          ∙ sym (ap (λ b. cond b (o ∷ within r os) (within r os)) (before_out o.0 e))
      by later true false e f = absurd (true≢false (sym (start_is_up_to o.0 e) ∙ f))
      by later false c e f = from_first c f e

-- what is found in a map of two lists, an id of which comes before all of the last or is in it
pub got_front : (id : OpId) (es fs : List Operation) → below_all id_cmp id fs ≡ true
    → bag_under es id ≡ map.get (operations_of (es ++ fs)) id
got_front id es fs h = sym (get_value (es ++ fs) id ∙ found_front id es fs (below_none id fs h))

pub got_back : (id : OpId) (es fs : List Operation) → Rise (es ++ fs) → below_all id_cmp id fs ≡ false
    → bag_under fs id ≡ map.get (operations_of (es ++ fs)) id
got_back id es fs rise h = sym (get_value (es ++ fs) id ∙ found_back id es fs (front_none id es fs rise h))

-- the operations of a range in a map of two lists are those in the first and those in the last
pub within_both : (r : IdRange) → r.lo ≤ r.hi → (es fs : List Operation) → Rise (es ++ fs) → within r es
    ++ slice_range fs (count_while (is_before (first_id r)) fs) (count_while (is_up_to (last_id r)) fs)
    ≡ within r (map.entries (operations_of (es ++ fs)))
within_both r holds es fs rise = ap (λ xs. within r es ++ xs) (between_counts r holds fs (rise_back es fs rise))
    ∙ sym (filter-append (λ o. in_range r o.0) es fs) ∙ ap (within r) (sym (entries_of (es ++ fs) rise))
