-- What chains keep.
use Rattle.std.proofs.Common.{◌≡◌, ℕ, ℤ, ◌+◌, ◌-◌, ◌%◌, ◌<◌, ◌≤◌, inl, inr, List, [], ◌∷◌, ◌++◌, length, get_or, set}
use Rattle.std.proofs.Common.{true, false, refl, sym, ap, ◌∙◌, arith}
use Rattle.std.proofs.lemmas.List.{get_or_default, get_or-set_same, get_or-set_other, get_or_append_left, length-set}
use Rattle.std.proofs.lemmas.Bool.{cases_lt}
use Rattle.chr_indexes.specs.RangedRows.{IsIn}
use Rattle.chr_indexes.specs.declared.ranges.range.Range.{Range}
use Rattle.chr_indexes.specs.declared.ranges.row.Row.{Row}
use Rattle.chr_indexes.specs.declared.ranges.row.Link.{Link}
use Rattle.chr_indexes.specs.working.Bounds.{IsInBounds}
use Rattle.chr_indexes.specs.working.RangeChains.{no_row, row_at, row_slot, no_link, link_at, LivesIn, IsNewest, IsLink}
use Rattle.chr_indexes.specs.working.RangeChains.{AreLinked, AreHeads, Passes, IsSought}

-- the first k rows that live were alive before, and have the hash and value that they had
pub record IsKept (k : ℕ) (before after : List Row) : Type 0 where
  pub hash : (q : ℕ) → q < k → (row_at after q).hash ≡ (row_at before q).hash
  pub alive : (q : ℕ) → q < k → (row_at after q).alive ≡ true → (row_at before q).alive ≡ true
  pub value : (q : ℕ) → q < k → (row_at after q).value ≡ (row_at before q).value

-- what is read below the end
pub read : (links : List Link) (r : ℕ) (l : Link) → r < length links → l ≡ get_or links r l → link_at links r ≡ l
read links r l here e = get_or_default links r no_link l here ∙ sym e

module _ (n k : ℕ) (before after : List Row) (kept : IsKept k before after) where
  same_slot : (q : ℕ) → q < k → row_slot n after q ≡ row_slot n before q
  same_slot q l = ap (λ h. h % n) (kept.hash q l)

  lived : (q s : ℕ) → q < k → LivesIn n after s q → LivesIn n before s q
  lived q s l w = (sym (same_slot q l) ∙ w.0, kept.alive q l w.1)

  pub newest_kept : (b s p : ℕ) → b ≤ k → IsNewest n before b s p → IsNewest n after b s p
  newest_kept b s p few i = record {
    within = i.within;
    of_slot = λ some. (let w = i.within in same_slot (p - 1) (omega (arith, w, some, few)) ∙ i.of_slot some);
    none_above = λ q l w. i.none_above q l (lived q s (omega (arith, l, few)) w);
  }

  pub link_kept : (r : ℕ) (l : Link) → r < k → IsLink n before r l → IsLink n after r l
  link_kept r l here i =
      let s : row_slot n after r ≡ row_slot n before r = same_slot r here in record {
        next = rw s (newest_kept r (row_slot n before r) l.next (omega (arith, here)) i.next);
        jump = i.jump;
        jump_slot = λ some. (let w = i.jump in same_slot (l.jump - 1) (omega (arith, w, some, here)) ∙ i.jump_slot some
            ∙ sym s);
        bounded = λ q most from w. (let less : q < k = omega (arith, most, here) in
            rw (kept.value q less) (i.bounded q most from (lived q (row_slot n before r) less (w.0 ∙ s, w.1))));
      }

module _ (n : ℕ) (rows : List Row) where
  -- the leaf: no live row of the slot lies between the row and the next
  pub leaf : (r next : ℕ) (l : Link) → IsNewest n rows r (row_slot n rows r) next → l.next ≡ next → l.jump ≡ next
      → ((row_at rows r).alive ≡ true → IsInBounds l.bounds (row_at rows r).value) → IsLink n rows r l
  leaf r next l i en ej own = record {
    next = rw en i;
    jump = (let w = i.within in omega (arith, w, ej));
    jump_slot = rw ej i.of_slot;
    bounded = λ q most from w. (elim (cases_lt q r) as (λ _. IsInBounds l.bounds (row_at rows q).value) [
      | inl less ↦ (let a = i.none_above q less w in absurd (omega (arith, a, from, ej)))
      | inr least ↦ (let e : q ≡ r = omega (arith, most, least) in
          rw e (own (ap (λ k. (row_at rows k).alive) (sym e) ∙ w.1)))
    ]);
  }

  -- the node: the rows below are those of two trees
  pub node : (r next : ℕ) (l left right : Link) → IsNewest n rows r (row_slot n rows r) next → 0 < next → 0 < left.jump
      → IsLink n rows (next - 1) left → IsLink n rows (left.jump - 1) right → l.next ≡ next → l.jump ≡ right.jump
      → ((row_at rows r).alive ≡ true → IsInBounds l.bounds (row_at rows r).value)
      → ((x : ℤ) → IsInBounds left.bounds x → IsInBounds l.bounds x)
      → ((x : ℤ) → IsInBounds right.bounds x → IsInBounds l.bounds x)
      → IsLink n rows r l
  node r next l left right i some more a b en ej own inleft inright =
      let sa : row_slot n rows (next - 1) ≡ row_slot n rows r = i.of_slot some in
      let sb : row_slot n rows (left.jump - 1) ≡ row_slot n rows r = a.jump_slot more ∙ sa in
      let within = i.within in
      let jump = a.jump in
      let last = b.jump in record {
        next = rw en i;
        jump = omega (arith, within, jump, last, ej, some, more);
        jump_slot = λ p. (ap (λ k. row_slot n rows (k - 1)) ej ∙ b.jump_slot (omega (arith, p, ej)) ∙ sb);
        bounded = λ q most from w. (elim (cases_lt q r) as (λ _. IsInBounds l.bounds (row_at rows q).value) [
          | inl less ↦ (let above = i.none_above q less w in
              elim (cases_lt q left.jump) as (λ _. IsInBounds l.bounds (row_at rows q).value) [
                | inl low ↦ inright _ (b.bounded q (omega (arith, low)) (omega (arith, from, ej)) (w.0 ∙ sym sb, w.1))
                | inr high ↦ inleft _ (a.bounded q (omega (arith, above)) high (w.0 ∙ sym sa, w.1))
              ])
          | inr least ↦ (let e : q ≡ r = omega (arith, most, least) in
              rw e (own (ap (λ k. (row_at rows k).alive) (sym e) ∙ w.1)))
        ]);
      }

  -- one link is changed
  pub linked_set : (links : List Link) (k r : ℕ) (l : Link) → AreLinked n rows links k → r < length links
      → IsLink n rows r l → AreLinked n rows (set links r l) k
  linked_set links k r l are here i j g = elim (cases_lt j r) as (λ _. IsLink n rows j (link_at (set links r l) j)) [
    | inl less ↦ rw (get_or-set_other links r j l no_link (λ s. (absurd (omega (arith, less, s))))) (are j g)
    | inr most ↦ elim (cases_lt r j) as (λ _. IsLink n rows j (link_at (set links r l) j)) [
      | inl less ↦ rw (get_or-set_other links r j l no_link (λ s. (absurd (omega (arith, less, s))))) (are j g)
      | inr least ↦ (let s : j ≡ r = omega (arith, most, least) in rw (s, get_or-set_same links r l no_link here) i)
    ]
  ]

  -- one more link, that of the next row, is put in its place
  pub linked_more : (links : List Link) (k : ℕ) (l : Link) → AreLinked n rows links k → k < length links
      → IsLink n rows k l → AreLinked n rows (set links k l) (k + 1)
  linked_more links k l are here i j g = elim (cases_lt j k) as (λ _. IsLink n rows j (link_at (set links k l) j)) [
    | inl less ↦ linked_set links k k l are here i j less
    | inr most ↦ (let s : j ≡ k = omega (arith, most, g) in rw (s, get_or-set_same links k l no_link here) i)
  ]

  -- what the bounds shut out is passed by a jump
  pub jumped : (range : Range) (r : ℕ) (l : Link) → IsLink n rows r l
      → ((x : ℤ) → IsInBounds l.bounds x → IsIn range x → ⊥)
      → Passes n rows range r (r + 1) l.jump
  jumped range r l i none q g w has = elim (cases_lt q l.jump) as (λ _. q < l.jump) [
    | inl less ↦ less
    | inr most ↦ (let b = i.bounded q (omega (arith, g)) most w in absurd (none _ b has))
  ]

  -- a row that is sought lies below a place that passes none of those sought
  pub passed : (hash : ℕ) (range : Range) (from at to bound : ℕ) → 0 < at → row_slot n rows (at - 1) ≡ hash % n
      → at ≤ bound + 1
      → (at ≡ bound + 1 → IsSought rows hash range (at - 1) → ⊥)
      → Passes n rows range (at - 1) bound to → ((r : ℕ) → r < from → IsSought rows hash range r → r < at)
      → (r : ℕ) → r < from → IsSought rows hash range r → r < to
  passed hash range from at to bound some slot most other pass above r l w = elim (cases_lt r bound) as (λ _. r < to) [
    | inl less ↦ pass r less (ap (λ h. h % n) w.1 ∙ sym slot, w.0) w.2
    | inr least ↦ (let a = above r l w in
        let e : r ≡ at - 1 = omega (arith, a, least, most) in
        absurd (other (omega (arith, a, least, most)) (rw (← e) w)))
  ]

-- the row is the newest of its slot
pub heads_more : (rows : List Row) (heads : List ℕ) (k s p : ℕ) → AreHeads rows heads k → 0 < length heads
    → s ≡ row_slot (length heads) rows k → p ≡ k + 1
    → AreHeads rows (set heads s p) (k + 1)
heads_more rows heads k s p are some es ep t g = rw size
    (elim (cases_lt t s) as (λ _. IsNewest (length heads) rows (k + 1) t (get_or (set heads s p) t 0)) [
      | inl less ↦ other (λ e. (absurd (omega (arith, less, e))))
      | inr most ↦ elim (cases_lt s t) as (λ _. IsNewest (length heads) rows (k + 1) t (get_or (set heads s p) t 0)) [
        | inl less ↦ other (λ e. (absurd (omega (arith, less, e))))
        | inr least ↦ same (omega (arith, most, least))
      ]
    ])
  where
    size : length (set heads s p) ≡ length heads
    size = length-set heads s p

    here : t < length heads
    here = let e = size in omega (arith, g, e)

    other : (t ≡ s → ⊥) → IsNewest (length heads) rows (k + 1) t (get_or (set heads s p) t 0)
    other d = rw (get_or-set_other heads s t p 0 d) (let i = are t here in record {
      within = (let w = i.within in omega (arith, w));
      of_slot = i.of_slot;
      none_above = λ q l w. (elim (cases_lt q k) as (λ _. q < get_or heads t 0) [
        | inl less ↦ i.none_above q less w
        | inr most ↦ (let e : q ≡ k = omega (arith, l, most) in
            absurd (d (sym w.0 ∙ ap (row_slot (length heads) rows) e ∙ sym es)))
      ]);
    })

    same : t ≡ s → IsNewest (length heads) rows (k + 1) t (get_or (set heads s p) t 0)
    same e =
        let v : get_or (set heads s p) t 0 ≡ k + 1 = ap (λ x. get_or (set heads s p) x 0) e
        ∙ get_or-set_same heads s p 0 (omega (arith, here, e)) ∙ ep in
        rw v (record {
          within = omega arith;
          of_slot = λ _. (ap (row_slot (length heads) rows) (omega arith) ∙ sym es ∙ sym e);
          none_above = λ q l w. l;
        })

-- where rows are only pushed or killed every index goes on
pub index_kept : (k : ℕ) (before after : List Row) (links more : List Link) (heads : List ℕ) → IsKept k before after
    → ((r : ℕ) → r < k → link_at more r ≡ link_at links r)
    → AreLinked (length heads) before links k → AreHeads before heads k → AreLinked (length heads) after more k
    × AreHeads after heads k
index_kept k before after links more heads kept same linked newest = (
  λ r l. rw (same r l) (link_kept (length heads) k before after kept r (link_at links r) l (linked r l)),
  λ s l. newest_kept (length heads) k before after kept k s (get_or heads s 0) (omega arith) (newest s l),
)

-- one more row is pushed
pub kept_push : (rows : List Row) (x : Row) → IsKept (length rows) rows (rows ++ x ∷ [])
kept_push rows x = record {
  hash = λ q l. ap (λ (r : Row). r.hash) (get_or_append_left rows (x ∷ []) no_row q l);
  alive = λ q l e. (ap (λ (r : Row). r.alive) (sym (get_or_append_left rows (x ∷ []) no_row q l)) ∙ e);
  value = λ q l. ap (λ (r : Row). r.value) (get_or_append_left rows (x ∷ []) no_row q l);
}

-- one row dies
pub kept_kill : (rows : List Row) (k : ℕ) (x : Row) → k < length rows → x.hash ≡ (row_at rows k).hash → x.value
    ≡ (row_at rows k).value → x.alive ≡ false → IsKept (length rows) rows (set rows k x)
kept_kill rows k x here eh ev dead = record {
  hash = λ q l. by (λ r. r.hash ≡ (row_at rows q).hash) q refl (λ e. (eh ∙ ap (λ j. (row_at rows j).hash) (sym e)));
  alive = λ q l. by (λ r. r.alive ≡ true → (row_at rows q).alive ≡ true) q (λ e. e)
      (λ _ e. (absurd (let f : false ≡ true = sym dead ∙ e in cc)));
  value = λ q l. by (λ r. r.value ≡ (row_at rows q).value) q refl (λ e. (ev ∙ ap (λ j. (row_at rows j).value) (sym e)));
}
  where
    by : (P : Row → Type 0) (q : ℕ) → P (row_at rows q) → (q ≡ k → P x) → P (row_at (set rows k x) q)
    by P q other same = elim (cases_lt q k) as (λ _. P (row_at (set rows k x) q)) [
      | inl less ↦ rw (get_or-set_other rows k q x no_row (λ e. (absurd (omega (arith, less, e))))) other
      | inr most ↦ elim (cases_lt k q) as (λ _. P (row_at (set rows k x) q)) [
        | inl less ↦ rw (get_or-set_other rows k q x no_row (λ e. (absurd (omega (arith, less, e))))) other
        | inr least ↦ (let e : q ≡ k = omega (arith, most, least) in
            rw (e, get_or-set_same rows k x no_row here) (same e))
      ]
    ]
