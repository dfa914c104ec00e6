-- Rows as callers see them.
use Rattle.std.proofs.Common.{◌≡◌, ℕ, ℤ, zero, suc, ◌+◌, ◌-◌, ◌<◌, ◌≤◌, ◌^◌, inl, inr, List, []}
use Rattle.std.proofs.Common.{◌∷◌, ◌++◌, length, get_or, set, Bool, true, false, cond, Option, refl, sym, ap, ◌∙◌}
use Rattle.std.proofs.Common.{arith, length-append}
use Rattle.std.specs.Prelude.{Some, None, IfNone}
use Rattle.std.proofs.lemmas.List.{get_or-map, get_or_default, get_or-set_same, get_or-set_other, length-set}
use Rattle.std.proofs.lemmas.List.{length-map, get_or_append_left, get_or_past, ext_get_or, map-append}
use Rattle.std.proofs.Math.Seq.{get_or-append_seam}
use Rattle.std.proofs.lemmas.Bool.{cases_lt}
use Rattle.chr_indexes.specs.RangedRows.{Pair, IsCrossed}
use Rattle.chr_indexes.specs.declared.ranges.range.Range.{Range}
use Rattle.chr_portions.specs.declared.record.Record.{Record}
use Rattle.chr_portions.specs.declared.record.Sought.{Sought}
use Rattle.chr_portions.specs.declared.skips.Skip.{Skip}
use Rattle.chr_portions.specs.RankedPairs.{rank_of, AreDistinct}
use Rattle.chr_portions.specs.working.Skips.{no_record, record_at, IsSought}
use Rattle.chr_portions.specs.working.Chains.{AreNext, AreHeads, AreAlike}
use Rattle.chr_portions.specs.working.Placed.{place_at, IsPlaced, AreSame, AgreeBelow}
use Rattle.chr_portions.specs.working.Entries.{entry_of, rows_of, IsIndex}
use Rattle.chr_portions.proofs.Kept.{same_or, IsKept, alike_kept, agree_kept, next_kept, heads_kept, skips_kept}

-- what the row is found by
abbrev pub row_at : List Record → List ℕ → ℕ → Option Pair
row_at records places r = entry_of (record_at records (place_at places r))

pub rows_read : (records : List Record) (places : List ℕ) (r : ℕ) → r < length places
    → get_or (rows_of records places) r None ≡ row_at records places r
rows_read records places r l = get_or-map (λ p. entry_of (record_at records p)) places r 0 None l

pub rows_len : (records : List Record) (places : List ℕ) → length (rows_of records places) ≡ length places
rows_len records places = length-map places (λ p. entry_of (record_at records p))

-- no row past the last is found
past_end : (rows : List (Option Pair)) (r : ℕ) (p : Pair) → get_or rows r None ≡ Some p → r < length rows
past_end [] r p e = cc
past_end (x ∷ rows) zero p e = omega arith
past_end (x ∷ rows) (suc r) p e = let l = past_end rows r p e in omega (arith, l)

some_cond : (b : Bool) (x e : Pair) → ◌≡◌ {A = Option Pair} (cond b (Some x) None) (Some e) → (b ≡ true) × (x ≡ e)
some_cond true x e f = (refl, cc)
some_cond false x e f = cc

-- rows with like records are the same
entry_like : (a b : Record) → a.hash ≡ b.hash → a.alive ≡ b.alive → a.first ≡ b.first → a.second ≡ b.second
    → entry_of a ≡ entry_of b
entry_like a b eh ea ef es =
    rw (eh, ea, ef, es) refl

pub rows_same : (before : List Record) (from : List ℕ) (after : List Record) (to : List ℕ) → length to ≡ length from
    → ((r : ℕ) → r < length from → row_at after to r ≡ row_at before from r)
    → rows_of after to ≡ rows_of before from
rows_same before from after to size same =
    let left = rows_len after to in
    let right = rows_len before from in
    ext_get_or None (rows_of after to) (rows_of before from) (left ∙ size ∙ sym right)
    (λ r l. (let here : r < length from = omega (arith, l, left, size) in
    rows_read after to r (omega (arith, here, size)) ∙ same r here ∙ sym (rows_read before from r here)))

pub rows_alike : (before after : List Record) (places : List ℕ) → AreAlike before after
    → rows_of after places ≡ rows_of before places
rows_alike before after places a = rows_same before places after places refl
    (λ r l. (let p = place_at places r in
    entry_like (record_at after p) (record_at before p) (a p).0 (a p).1 (a p).3 (a p).4))

pub rows_moved : (before : List Record) (from : List ℕ) (after : List Record) (to : List ℕ) → length to ≡ length from
    → AreSame before from after to → rows_of after to ≡ rows_of before from
rows_moved before from after to size same = rows_same before from after to size
    (λ r l. (let e = same r l in
    entry_like (record_at after (place_at to r)) (record_at before (place_at from r)) e.0 e.1 e.2 e.3))

pub placed_by : (before after : List Record) (places : List ℕ)
    → ((p : ℕ) → (record_at after p).row ≡ (record_at before p).row)
    → length after ≡ length before → IsPlaced before places → IsPlaced after places
placed_by before after places a size i = record {
  as_many = i.as_many ∙ sym size;
  there = λ r l. (let t = i.there r l in omega (arith, t, size));
  own = λ r l. (a (place_at places r) ∙ i.own r l);
  rows = λ p l. rw (a p) (i.rows p (omega (arith, l, size)));
  back = λ p l. rw (a p) (i.back p (omega (arith, l, size)));
}

-- the place of a row is its rank
pub rank_is : (places : List ℕ) (r : ℕ) → r < length places → rank_of places r ≡ place_at places r
rank_is places r l = get_or_default places r r 0 l

pub rank_past : (places : List ℕ) (r : ℕ) → length places ≤ r → rank_of places r ≡ r
rank_past places r l = get_or_past places r r l

-- ranks of rows lie below their number
pub rank_within : (records : List Record) (places : List ℕ) (r : ℕ) → IsPlaced records places → r < length places
    → rank_of places r < length places
rank_within records places r i l =
    let e = rank_is places r l in
    let t = i.there r l in
    let m = i.as_many in
    omega (arith, e, t, m)

pub are_distinct : (records : List Record) (places : List ℕ) → IsPlaced records places → AreDistinct places
are_distinct records places i l r e = elim (cases_lt l (length places)) as (λ _. l ≡ r) [
  | inl lin ↦ elim (cases_lt r (length places)) as (λ _. l ≡ r) [
    | inl rin ↦ sym (i.own l lin)
        ∙ ap (λ p. (record_at records p).row) (sym (rank_is places l lin) ∙ e ∙ rank_is places r rin) ∙ i.own r rin
    | inr rout ↦ (let a = rank_within records places l i lin in let b = rank_past places r rout in
        absurd (omega (arith, a, b, e, rout)))
  ]
  | inr lout ↦ elim (cases_lt r (length places)) as (λ _. l ≡ r) [
    | inl rin ↦ (let a = rank_within records places r i rin in let b = rank_past places l lout in
        absurd (omega (arith, a, b, e, lout)))
    | inr rout ↦ sym (rank_past places l lout) ∙ e ∙ rank_past places r rout
  ]
]

-- what a row is wanted by, and what its record is sought by
pub crossed_sought : (records : List Record) (places : List ℕ) (s : Sought) (r : ℕ)
    → IsCrossed (rows_of records places) s.hash s.first s.second r
    → (r < length places) × IsSought s (record_at records (place_at places r))
crossed_sought records places s r w =
    let size = rows_len records places in
    let l = past_end (rows_of records places) r w.0 w.1 in
    let here : r < length places = omega (arith, l, size) in
    let e = some_cond (record_at records (place_at places r)).alive _ w.0 (sym (rows_read records places r here) ∙ w.1)
    in (
      here,
      (
        e.0,
        ap (λ (p : Pair). p.hash) e.1 ∙ w.2,
        rw (ap (λ (p : Pair). p.first) e.1) w.3,
        rw (ap (λ (p : Pair). p.second) e.1) w.4,
      ),
    )

pub sought_crossed : (records : List Record) (places : List ℕ) (s : Sought) (r : ℕ) → r < length places
    → IsSought s (record_at records (place_at places r))
    → IsCrossed (rows_of records places) s.hash s.first s.second r
sought_crossed records places s r here w =
    let x = record_at records (place_at places r) in (
      record { hash = x.hash; first = x.first; second = x.second },
      rows_read records places r here
          ∙ ap (λ b. cond b (Some (record { hash = x.hash; first = x.first; second = x.second })) None) w.0,
      w.1,
      w.2,
      w.3,
    )

-- the row of a place that is sought
pub place_crossed : (records : List Record) (places : List ℕ) (s : Sought) (p : ℕ) → IsPlaced records places
    → p < length records → IsSought s (record_at records p)
    → IsCrossed (rows_of records places) s.hash s.first s.second (record_at records p).row
    × (rank_of places (record_at records p).row ≡ p)
place_crossed records places s p i l w =
    let here = i.rows p l in
    let back = i.back p l in (
      sought_crossed records places s (record_at records p).row here (rw back w),
      rank_is places (record_at records p).row here ∙ back,
    )

-- each wanted row of a rank below the bound has its rank below the place
pub ranks_below : (records : List Record) (places : List ℕ) (s : Sought) (bound place : ℕ)
    → ((p : ℕ) → p < bound → IsSought s (record_at records p) → p < place)
    → (r : ℕ) → rank_of places r < bound → IsCrossed (rows_of records places) s.hash s.first s.second r
    → rank_of places r < place
ranks_below records places s bound place none r less w =
    let t = crossed_sought records places s r w in
    let e = rank_is places r t.0 in
    rw e (none (place_at places r) (omega (arith, less, e)) t.1)

-- a record dies
killed : (records : List Record) (q : ℕ) (x : Record) → q < length records → x.hash ≡ (record_at records q).hash
    → x.alive ≡ false → x.row ≡ (record_at records q).row → x.first ≡ (record_at records q).first
    → x.second ≡ (record_at records q).second → x.next ≡ (record_at records q).next → (p : ℕ)
    → ((record_at (set records q x) p).hash ≡ (record_at records p).hash)
    × ((record_at (set records q x) p).alive ≡ true → (record_at records p).alive ≡ true)
    × ((record_at (set records q x) p).row ≡ (record_at records p).row)
    × ((record_at (set records q x) p).first ≡ (record_at records p).first)
    × ((record_at (set records q x) p).second ≡ (record_at records p).second)
    × ((record_at (set records q x) p).next ≡ (record_at records p).next)
killed records q x here eh dead er ef es en p =
    elim (same_or p q) as (λ _. ((record_at (set records q x) p).hash ≡ (record_at records p).hash)
    × ((record_at (set records q x) p).alive ≡ true → (record_at records p).alive ≡ true)
    × ((record_at (set records q x) p).row ≡ (record_at records p).row)
    × ((record_at (set records q x) p).first ≡ (record_at records p).first)
    × ((record_at (set records q x) p).second ≡ (record_at records p).second)
    × ((record_at (set records q x) p).next ≡ (record_at records p).next)) [
      | inl e ↦ rw (e, get_or-set_same records q x no_record here)
          (eh, λ a. (let c : true ≡ false = sym a ∙ dead in cc), er, ef, es, en)
      | inr d ↦ rw (get_or-set_other records q p x no_record d) (refl, λ a. a, refl, refl, refl, refl)
    ]

pub index_kill : (records : List Record) (places heads : List ℕ) (skips : List Skip) (q : ℕ) (x : Record)
    → q < length records → x.hash ≡ (record_at records q).hash
    → x.alive ≡ false → x.row ≡ (record_at records q).row → x.first ≡ (record_at records q).first
    → x.second ≡ (record_at records q).second → x.next ≡ (record_at records q).next
    → IsIndex records places heads skips → IsIndex (set records q x) places heads skips
index_kill records places heads skips q x here eh dead er ef es en i =
    let size = length-set records q x in
    let few = i.few in
    let covered = i.covered in
    let k = killed records q x here eh dead er ef es en in
    let kept : IsKept (length records) records (set records q x) = record {
      hash = λ p l. (k p).0;
      alive = λ p l. (k p).1;
      first = λ p l. (k p).3;
      second = λ p l. (k p).4;
    } in record {
      placed = placed_by records (set records q x) places (λ p. (k p).2) size i.placed;
      few = omega (arith, few, size);
      some = i.some;
      most = i.most;
      next = rw size (next_kept (length heads) (length records) records _ kept (λ p l. (k p).5) i.next);
      newest = rw size (heads_kept (length records) records _ heads kept i.newest);
      covered = omega (arith, covered, size);
      linked = skips_kept (length heads) (length records) records _ kept skips (length skips) i.covered i.linked;
    }

pub rows_kill : (records : List Record) (places : List ℕ) (row q : ℕ) (x : Record) → IsPlaced records places
    → row < length places → q ≡ place_at places row → x.alive ≡ false
    → rows_of (set records q x) places ≡ set (rows_of records places) row None
rows_kill records places row q x i l eq d =
    let left = rows_len (set records q x) places in
    let right = rows_len records places in
    let more = length-set (rows_of records places) row None in
    let there = i.there row l in
    let here : q < length records = omega (arith, there, eq) in
    let dead : entry_of x ≡ None =
    ap (λ b. cond b (Some (record { hash = x.hash; first = x.first; second = x.second })) None) d in
    ext_get_or None (rows_of (set records q x) places) (set (rows_of records places) row None)
    (left ∙ sym right ∙ sym more)
    (λ r m. (let low : r < length places = omega (arith, m, left) in
    elim (same_or r row) as (λ _. get_or (rows_of (set records q x) places) r None
    ≡ get_or (set (rows_of records places) row None) r None) [
      | inl e ↦ rows_read (set records q x) places r low
          ∙ ap (λ k. entry_of (record_at (set records q x) k)) (ap (λ k. place_at places k) e ∙ sym eq)
          ∙ ap entry_of (get_or-set_same records q x no_record here) ∙ dead
          ∙ sym (ap (λ k. get_or (set (rows_of records places) row None) k None) e
          ∙ get_or-set_same (rows_of records places) row None None (omega (arith, l, right)))
      | inr n ↦ rows_read (set records q x) places r low
          ∙ ap entry_of (get_or-set_other records q (place_at places r) x no_record
          (λ e. n (sym (i.own r low) ∙ ap (λ p. (record_at records p).row) (e ∙ eq) ∙ i.own row l)))
          ∙ sym (rows_read records places r low)
          ∙ sym (get_or-set_other (rows_of records places) row r None None n)
    ]))

-- what a row is found by, from its parts
abbrev pub found_by : ℕ → ℤ → ℤ → Option Pair
found_by h f s = Some (record { hash = h; first = f; second = s })

-- one record more
pub agree_push : (records : List Record) (x : Record) → AgreeBelow (length records) records (records ++ x ∷ [])
agree_push records x p l = get_or_append_left records (x ∷ []) no_record p l

pub rows_push : (records : List Record) (places : List ℕ) (n : ℕ) (x : Record) → IsPlaced records places
    → n ≡ length records → rows_of (records ++ x ∷ []) (places ++ n ∷ []) ≡ rows_of records places ++ entry_of x ∷ []
rows_push records places n x i e =
    map-append (λ p. entry_of (record_at (records ++ x ∷ []) p)) places (n ∷ [])
    ∙ ap (λ (rows : List (Option Pair)). rows ++ entry_of (record_at (records ++ x ∷ []) n) ∷ [])
    (rows_same records places (records ++ x ∷ []) places refl
    (λ r l. ap entry_of (agree_push records x (place_at places r) (i.there r l))))
    ∙ ap (λ y. rows_of records places ++ entry_of y ∷ [])
    (ap (λ k. record_at (records ++ x ∷ []) k) e ∙ get_or-append_seam records x [] no_record)

placed_push : (records : List Record) (places : List ℕ) (n : ℕ) (x : Record) → IsPlaced records places
    → n ≡ length records → x.row ≡ n → IsPlaced (records ++ x ∷ []) (places ++ n ∷ [])
placed_push records places n x i e er =
    let many = i.as_many in
    let longer : length (records ++ x ∷ []) ≡ length records + 1 = length-append records (x ∷ []) in
    let more : length (places ++ n ∷ []) ≡ length places + 1 = length-append places (n ∷ []) in
    let top : record_at (records ++ x ∷ []) n ≡ x =
    ap (λ k. record_at (records ++ x ∷ []) k) e ∙ get_or-append_seam records x [] no_record in
    let last : place_at (places ++ n ∷ []) n ≡ n =
    ap (λ k. place_at (places ++ n ∷ []) k) (e ∙ sym many) ∙ get_or-append_seam places n [] 0 in
    let low : (r : ℕ) → r < length places → place_at (places ++ n ∷ []) r ≡ place_at places r =
    λ r l. get_or_append_left places (n ∷ []) 0 r l in
    let same = agree_push records x in
    record {
      as_many = omega (arith, many, longer, more);
      there = λ r l. (elim (cases_lt r (length places)) as
          (λ _. place_at (places ++ n ∷ []) r < length (records ++ x ∷ [])) [
            | inl less ↦ (let a = low r less in let t = i.there r less in omega (arith, a, t, longer))
            | inr most ↦ (let is : r ≡ n = omega (arith, most, l, more, many, e) in
                rw (is, last) (omega (arith, e, longer)))
          ]);
      own = λ r l. (elim (cases_lt r (length places)) as
          (λ _. (record_at (records ++ x ∷ []) (place_at (places ++ n ∷ []) r)).row ≡ r) [
            | inl less ↦ rw (low r less) (ap (λ (y : Record). y.row) (same (place_at places r) (i.there r less))
                ∙ i.own r less)
            | inr most ↦ (let is : r ≡ n = omega (arith, most, l, more, many, e) in rw (is, last, top) er)
          ]);
      rows = λ p l. (elim (cases_lt p (length records)) as
          (λ _. (record_at (records ++ x ∷ []) p).row < length (places ++ n ∷ [])) [
            | inl less ↦ rw (same p less) (let t = i.rows p less in omega (arith, t, more))
            | inr most ↦ (let is : p ≡ n = omega (arith, most, l, longer, e) in
                rw (is, top) (omega (arith, er, more, many, e)))
          ]);
      back = λ p l. (elim (cases_lt p (length records)) as
          (λ _. place_at (places ++ n ∷ []) (record_at (records ++ x ∷ []) p).row ≡ p) [
            | inl less ↦ rw (same p less) (low (record_at records p).row (i.rows p less) ∙ i.back p less)
            | inr most ↦ (let is : p ≡ n = omega (arith, most, l, longer, e) in rw (is, top, er) last)
          ]);
    }

module _ (records : List Record) (places heads : List ℕ) (skips : List Skip) (n : ℕ) (x : Record)
    (i : IsIndex records places heads skips) (e : n ≡ length records) where
  kept_push : IsKept (length records) records (records ++ x ∷ [])
  kept_push = agree_kept (length records) records (records ++ x ∷ []) (agree_push records x)

  pub push_next : AreNext (length heads) (records ++ x ∷ []) n
  push_next = rw e (next_kept (length heads) (length records) records _ kept_push
      (λ p l. ap (λ (r : Record). r.next) (agree_push records x p l)) i.next)

  pub push_heads : AreHeads (records ++ x ∷ []) heads n
  push_heads = rw e (heads_kept (length records) records _ heads kept_push i.newest)

  pub index_push : (records' : List Record) (heads' : List ℕ) → x.row ≡ n → length records + 1 < 2 ^ 32
      → AreAlike (records ++ x ∷ []) records' → length records' ≡ length (records ++ x ∷ [])
      → length heads' ≡ length heads → AreNext (length heads) records' (n + 1) → AreHeads records' heads' (n + 1)
      → IsIndex records' (places ++ n ∷ []) heads' skips
  index_push records' heads' er few a size slots next heads_are =
      let longer : length (records ++ x ∷ []) ≡ length records + 1 = length-append records (x ∷ []) in
      let whole : length records' ≡ n + 1 = omega (arith, size, longer, e) in
      let some = i.some in
      let most = i.most in
      let covered = i.covered in
      record {
        placed = placed_by (records ++ x ∷ []) records' (places ++ n ∷ []) (λ p. (a p).2) size
            (placed_push records places n x i.placed e er);
        few = omega (arith, few, size, longer);
        some = omega (arith, some, slots);
        most = omega (arith, most, slots);
        next = rw (slots, whole) next;
        newest = rw whole heads_are;
        covered = omega (arith, covered, size, longer);
        linked = skips_kept (length heads) (length records) (records ++ x ∷ []) records'
            (alike_kept (length records) (records ++ x ∷ []) records' a) skips (length skips) i.covered
            (skips_kept (length heads) (length records) records (records ++ x ∷ []) kept_push skips (length skips)
            i.covered i.linked);
      }

pub read_record : (records : List Record) (p : ℕ) (x : Record) → p < length records → x ≡ get_or records p x
    → record_at records p ≡ x
read_record records p x here e = get_or_default records p no_record x here ∙ sym e

pub read_place : (places : List ℕ) (r x : ℕ) → r < length places → x ≡ get_or places r x → place_at places r ≡ x
read_place places r x here e = get_or_default places r 0 x here ∙ sym e

-- all records join other slots
pub index_relink : (before after : List Record) (places heads : List ℕ) (skips : List Skip) (heads' : List ℕ)
    → AreAlike before after → length after ≡ length before → 0 < length heads' → length heads' < 2 ^ 32
    → AreNext (length heads') after (length before) → AreHeads after heads' (length before)
    → IsIndex before places heads skips → IsIndex after places heads' skips
index_relink before after places heads skips heads' a size some most next newest i =
    let few = i.few in
    let covered = i.covered in record {
      placed = placed_by before after places (λ p. (a p).2) size i.placed;
      few = omega (arith, few, size);
      some = some;
      most = most;
      next = rw size next;
      newest = rw size newest;
      covered = omega (arith, covered, size);
      linked = skips_kept (length heads) (length before) before after (alike_kept (length before) before after a) skips
          (length skips) i.covered i.linked;
    }

-- the rank of a row that is found lies below the number of rows
pub crossed_within : (records : List Record) (places : List ℕ) (h : ℕ) (f s : Range) (r : ℕ) → IsPlaced records places
    → IsCrossed (rows_of records places) h f s r → rank_of places r < length records
crossed_within records places h f s r i w =
    let size = rows_len records places in
    let l = past_end (rows_of records places) r w.0 w.1 in
    let t = rank_within records places r i (omega (arith, l, size)) in
    let m = i.as_many in
    omega (arith, t, m)

pub none_then : (found : Option ℕ) {P Q : Type 0} → IfNone found P → (P → Q) → IfNone found Q
none_then None p f = f p
none_then (Some x) p f = tt

-- a place that is found, as callers see it
module _ (records : List Record) (places : List ℕ) (s : Sought) (bound place : ℕ) (rows : List (Option Pair))
    (ranks : List ℕ) (placed : IsPlaced records places) (same : rows_of records places ≡ rows)
    (as_ranks : places ≡ ranks)
  where
    pub found_rank : (row : ℕ) → 0 < place → place ≤ length records → row ≡ (record_at records (place - 1)).row
        → rank_of ranks row ≡ place - 1
    found_rank row some within e =
        let l : place - 1 < length records = omega (arith, some, within) in
        rw (← as_ranks, e) (rank_is places (record_at records (place - 1)).row (placed.rows (place - 1) l)
        ∙ placed.back (place - 1) l)

    pub found_crossed : (row : ℕ) → 0 < place → place ≤ length records → row ≡ (record_at records (place - 1)).row
        → IsSought s (record_at records (place - 1)) → IsCrossed rows s.hash s.first s.second row
    found_crossed row some within e w =
        let l : place - 1 < length records = omega (arith, some, within) in
        rw (← same, e) (sought_crossed records places s (record_at records (place - 1)).row (placed.rows (place - 1) l)
        (rw (placed.back (place - 1) l) w))

    pub found_above : ((p : ℕ) → p < bound → p < length records → IsSought s (record_at records p) → p < place)
        → (other : ℕ) → rank_of ranks other < bound → IsCrossed rows s.hash s.first s.second other
        → rank_of ranks other < place
    found_above none other less w =
        let t = crossed_sought records places s other (rw (← same) at w) in
        let e : rank_of ranks other ≡ place_at places other =
        ap (λ k. rank_of k other) (sym as_ranks) ∙ rank_is places other t.0 in
        rw e (none (place_at places other) (omega (arith, less, e)) (placed.there other t.0) t.1)
