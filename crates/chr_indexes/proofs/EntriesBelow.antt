-- Rows as callers see them.
use Rattle.std.proofs.Common.{◌≡◌, ℕ, zero, suc, ◌-◌, ◌%◌, ◌≤◌, ◌<◌, List, [], ◌∷◌, ◌++◌, length, get_or, set, Bool}
use Rattle.std.proofs.Common.{true, false, cond, Option, refl, sym, ap, ◌∙◌, arith}
use Rattle.std.specs.Prelude.{Some, None, IfSome, IfNone}
use Rattle.std.specs.Option.{SomeIff}
use Rattle.std.proofs.Math.ListN.{get_or-map}
use Rattle.std.proofs.lemmas.List.{get_or_default, get_or_append_left, length-set}
use Rattle.chr_indexes.specs.RangedRows.{Entry, HasEntryHash, IsWanted}
use Rattle.chr_indexes.specs.declared.ranges.range.Range.{Range}
use Rattle.chr_indexes.specs.declared.ranges.row.Row.{Row}
use Rattle.chr_indexes.specs.declared.ranges.row.Link.{Link}
use Rattle.chr_indexes.specs.working.RangeChains.{no_row, no_link, row_at, AreLinked, AreHeads, IsSought}
use Rattle.chr_indexes.specs.working.RangeEntries.{entry_of, entries_of, IsRangeIndex}
use Rattle.chr_indexes.proofs.RangeLinks.{index_kept, kept_push, kept_kill}

entry_at : (rows : List Row) (r : ℕ) → get_or (entries_of rows) r None ≡ entry_of (row_at rows r)
entry_at rows r = get_or-map entry_of rows r no_row

some_cond : (b : Bool) (x e : Entry) → ◌≡◌ {A = Option Entry} (cond b (Some x) None) (Some e) → (b ≡ true) × (x ≡ e)
some_cond true x e f = (refl, cc)
some_cond false x e f = cc

-- the row of an entry lives, and has its hash and value
entry_lives : (rows : List Row) (r : ℕ) (e : Entry) → get_or (entries_of rows) r None ≡ Some e
    → ((row_at rows r).alive ≡ true) × (◌≡◌ {A = Entry}
    (record { hash = (row_at rows r).hash; value = (row_at rows r).value }) e)
entry_lives rows r e f = some_cond (row_at rows r).alive _ e (sym (entry_at rows r) ∙ f)

pub lives_within : (rows : List Row) (r : ℕ) → (row_at rows r).alive ≡ true → r < length rows
lives_within [] r e = absurd (let f : false ≡ true = e in cc)
lives_within (x ∷ rows) zero e = omega arith
lives_within (x ∷ rows) (suc r) e = let l = lives_within rows r e in omega (arith, l)

pub hash_lives : (rows : List Row) (hash r : ℕ) → HasEntryHash (entries_of rows) hash r → ((row_at rows r).hash ≡ hash)
    × (r < length rows)
hash_lives rows hash r w = let l = entry_lives rows r w.0 w.1 in (ap (λ e. e.hash) l.1 ∙ w.2, lives_within rows r l.0)

pub lives_hash : (rows : List Row) (hash r : ℕ) → (row_at rows r).alive ≡ true → (row_at rows r).hash ≡ hash
    → HasEntryHash (entries_of rows) hash r
lives_hash rows hash r lives e = (
  record { hash = (row_at rows r).hash; value = (row_at rows r).value },
  entry_at rows r
      ∙ ap (λ b. cond b (Some (record { hash = (row_at rows r).hash; value = (row_at rows r).value })) None) lives,
  e,
)

pub wanted_sought : (rows : List Row) (hash : ℕ) (range : Range) (r : ℕ) → IsWanted (entries_of rows) hash range r
    → IsSought rows hash range r
wanted_sought rows hash range r w =
    let l = entry_lives rows r w.0 w.1 in
    (l.0, ap (λ e. e.hash) l.1 ∙ w.2, rw (ap (λ e. e.value) l.1) w.3)

pub sought_wanted : (rows : List Row) (hash : ℕ) (range : Range) (r : ℕ) → IsSought rows hash range r
    → IsWanted (entries_of rows) hash range r
sought_wanted rows hash range r w = (
  record { hash = (row_at rows r).hash; value = (row_at rows r).value },
  entry_at rows r
      ∙ ap (λ b. cond b (Some (record { hash = (row_at rows r).hash; value = (row_at rows r).value })) None) w.0,
  w.1,
  w.2,
)

-- the newest row for which P holds, from a place that lies above all such rows below a given one
pub found_newest : (P : ℕ → Type 0) (found : Option ℕ) (place : ℕ) → SomeIff found (1 ≤ place) (place - 1)
    → ((r : ℕ) → P r → r < place) → IfSome found (λ row. (other : ℕ) → P other → other ≤ row)
found_newest P None place is above = tt
found_newest P (Some row) place is above = λ other p. (let a = above other p in let e = is.1 in omega (arith, a, e))

pub found_none : (P : ℕ → Type 0) (found : Option ℕ) (place : ℕ) → SomeIff found (1 ≤ place) (place - 1)
    → ((r : ℕ) → P r → r < place) → IfNone found ((other : ℕ) → P other → ⊥)
found_none P None place is above = λ other p. (let a = above other p in is (omega (arith, a)))
found_none P (Some row) place is above = tt

-- what is read below the end
pub read_row : (rows : List Row) (r : ℕ) (x : Row) → r < length rows → x ≡ get_or rows r x → row_at rows r ≡ x
read_row rows r x here e = get_or_default rows r no_row x here ∙ sym e

-- a row dies
pub entries_kill : (rows : List Row) (k : ℕ) (x : Row) → x.alive ≡ false → entries_of (set rows k x)
    ≡ set (entries_of rows) k None
entries_kill [] k x dead = refl
entries_kill (y ∷ rows) zero x dead = ap (λ b. cond b (Some (record { hash = x.hash; value = x.value })) None
    ∷ entries_of rows) dead
entries_kill (y ∷ rows) (suc k) x dead = ap (λ es. entry_of y ∷ es) (entries_kill rows k x dead)

pub index_kill : (rows : List Row) (links : List Link) (heads : List ℕ) (k : ℕ) (x y : Row)
    → IsRangeIndex rows links heads → k < length rows → x ≡ get_or rows k x
    → y.hash ≡ x.hash → y.value ≡ x.value → y.alive ≡ false → IsRangeIndex (set rows k y) links heads
index_kill rows links heads k x y i here e eh ev dead =
    let is = read_row rows k x here e in
    let size = length-set rows k y in
    let kept = kept_kill rows k y here (eh ∙ ap (λ (r : Row). r.hash) (sym is))
    (ev ∙ ap (λ (r : Row). r.value) (sym is)) dead in
    let both = index_kept (length rows) rows (set rows k y) links links heads kept (λ r l. refl) i.linked i.newest in
    let few = i.few in
    record {
      as_many = i.as_many ∙ sym size;
      few = omega (arith, few, size);
      some = i.some;
      most = i.most;
      newest = rw size both.1;
      linked = rw size both.0;
    }

-- one row more, which has not joined its chain
pub index_push : (rows : List Row) (links : List Link) (heads : List ℕ) (n : ℕ) (x : Row) (l : Link)
    → IsRangeIndex rows links heads → n ≡ length rows
    → AreLinked (length heads) (rows ++ x ∷ []) (links ++ l ∷ []) n × AreHeads (rows ++ x ∷ []) heads n
index_push rows links heads n x l i e =
    let many = i.as_many in
    rw e (index_kept (length rows) rows (rows ++ x ∷ []) links (links ++ l ∷ []) heads (kept_push rows x)
    (λ r g. get_or_append_left links (l ∷ []) no_link r (omega (arith, g, many))) i.linked i.newest)

-- the chain of a hash begins above each row that is sought
pub first_above : (rows : List Row) (links : List Link) (heads : List ℕ) (hash : ℕ) (range : Range) (n from r : ℕ)
    → IsRangeIndex rows links heads → n ≡ length heads
    → from ≡ get_or heads (hash % n) from → IsSought rows hash range r → r < from
first_above rows links heads hash range n from r i en e w =
    let some = i.some in
    let here : hash % n < length heads = omega (arith, en, some) in
    let is : get_or heads (hash % n) 0 ≡ from = get_or_default heads (hash % n) 0 from here ∙ sym e in
    rw is at ((i.newest (hash % n) here).none_above r (lives_within rows r w.0)
    (ap (λ h. h % length heads) w.1 ∙ ap (λ k. hash % k) (sym en), w.0))

pub found_newest_below : (P : ℕ → Type 0) (row : ℕ) (found : Option ℕ) (place : ℕ)
    → SomeIff found (1 ≤ place) (place - 1) → ((r : ℕ) → r < row → P r → r < place)
    → IfSome found (λ next. (other : ℕ) → other < row → P other → other ≤ next)
found_newest_below P row None place is above = tt
found_newest_below P row (Some next) place is above = λ other l p.
    (let a = above other l p in let e = is.1 in omega (arith, a, e))

pub found_none_below : (P : ℕ → Type 0) (row : ℕ) (found : Option ℕ) (place : ℕ) → SomeIff found (1 ≤ place) (place - 1)
    → ((r : ℕ) → r < row → P r → r < place)
    → IfNone found ((other : ℕ) → other < row → P other → ⊥)
found_none_below P row None place is above = λ other l p. (let a = above other l p in is (omega (arith, a)))
found_none_below P row (Some next) place is above = tt

-- the newest row for which P holds, from a place that lies above all such rows up to a given one
pub found_newest_to : (P : ℕ → Type 0) (row : ℕ) (found : Option ℕ) (place : ℕ) → SomeIff found (1 ≤ place) (place - 1)
    → ((r : ℕ) → r ≤ row → P r → r < place)
    → IfSome found (λ next. (other : ℕ) → other ≤ row → P other → other ≤ next)
found_newest_to P row None place is above = tt
found_newest_to P row (Some next) place is above = λ other l p.
    (let a = above other l p in let e = is.1 in omega (arith, a, e))

pub found_none_to : (P : ℕ → Type 0) (row : ℕ) (found : Option ℕ) (place : ℕ) → SomeIff found (1 ≤ place) (place - 1)
    → ((r : ℕ) → r ≤ row → P r → r < place)
    → IfNone found ((other : ℕ) → other ≤ row → P other → ⊥)
found_none_to P row None place is above = λ other l p. (let a = above other l p in is (omega (arith, a)))
found_none_to P row (Some next) place is above = tt

pub length_entries : (rows : List Row) → length (entries_of rows) ≡ length rows
length_entries [] = refl
length_entries (x ∷ rows) = ap suc (length_entries rows)
