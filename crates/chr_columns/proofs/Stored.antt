-- The store in tables, when rows are read, killed and put in.
use Rattle.std.proofs.Common.{◌≡◌, ℕ, zero, suc, ◌+◌, ◌<◌, List, [], ◌∷◌, ◌++◌, map, length, get_or, set, take, Option}
use Rattle.std.proofs.Common.{refl, sym, ap, ◌∙◌, arith, inl, inr, ◌⊎◌, false}
use Rattle.std.specs.Prelude.{Some, None, is_some, IsTrue, slice_get}
use Rattle.std.proofs.lemmas.Bool.{cases_lt}
use Rattle.std.proofs.Math.ListN.{get_or-map}
use Rattle.std.proofs.Math.Seq.{map-set_same}
use Rattle.std.proofs.lemmas.List.{map-set, get_or_past, get_or_default, length-set, length-map}
use Rattle.chr_base.specs.declared.atom.Atom.{Atom}
use Rattle.chr_base.specs.Atoms.{atom_cmp}
use Rattle.chr_base.specs.FinBag.{◌⊕◌, count_in}
use Rattle.chr_base.proofs.Atoms.{atom_total}
use Rattle.chr_base.proofs.FinBags.{count-of_list}
use Rattle.chr_base.proofs.Stores.{same_store, count_plus}
use Rattle.chr_plans.specs.declared.rows.Seat.{Seat}
use Rattle.chr_plans.specs.Rows.{Tables}
use Rattle.chr_plans.specs.Seats.{seat, no_seat}
use Rattle.chr_tables.specs.Contents.{Contents, no_table, rows_of, index_columns}
use Rattle.chr_plans.specs.Actives.{one}
use Rattle.chr_plans.specs.Grids.{Grid, live_atoms, contents, rows_in, without_row, without_rows}
use Rattle.chr_plans.proofs.SeatedRows.{total_in, count_contents}
use Rattle.chr_columns.specs.working.Resting.{grid}

pub row_is : (ts : List Contents) (t n : ℕ) → rows_in (grid ts) t n ≡ rows_of ts t n
row_is ts t n = ap (λ rows. get_or rows n None) (get_or-map (λ (c : Contents). c.rows) ts t no_table)

pub rows_are : (ts : List Contents) → rows_in (grid ts) ≡ rows_of ts
rows_are ts i t n = row_is ts t n i

-- the atoms that live are known from the rows
live_cons : (o p : Option Atom) (xs ys : List (Option Atom)) → o ≡ p → live_atoms xs ≡ live_atoms ys
    → live_atoms (o ∷ xs) ≡ live_atoms (p ∷ ys)
live_cons o p xs ys e more = ap (λ x. live_atoms (x ∷ xs)) e ∙ at p
  where
    at : (x : Option Atom) → live_atoms (x ∷ xs) ≡ live_atoms (x ∷ ys)
    at None = more
    at (Some a) = ap (λ as'. a ∷ as') more

same_live : (xs ys : List (Option Atom)) → ((n : ℕ) → get_or xs n None ≡ get_or ys n None) → live_atoms xs
    ≡ live_atoms ys
same_live [] [] h = refl
same_live [] (o ∷ ys) h = live_cons None o [] ys (h 0) (same_live [] ys (λ n. h (suc n)))
same_live (o ∷ xs) [] h = live_cons o None xs [] (h 0) (same_live xs [] (λ n. h (suc n)))
same_live (o ∷ xs) (p ∷ ys) h = live_cons o p xs ys (h 0) (same_live xs ys (λ n. h (suc n)))

same_total : (q : Atom) (g h : Grid) → ((t n : ℕ) → rows_in g t n ≡ rows_in h t n) → total_in q g ≡ total_in q h
same_total q [] [] e = refl
same_total q [] (rows ∷ h) e =
    let a : ◌≡◌ {A = ℕ} 0 (count_in atom_cmp q (live_atoms rows)) =
    ap (count_in atom_cmp q) (same_live [] rows (λ n. e 0 n)) in
    let b = same_total q [] h (λ t n. e (suc t) n) in
    omega (arith, a, b)
same_total q (rows ∷ g) [] e =
    let a : ◌≡◌ {A = ℕ} (count_in atom_cmp q (live_atoms rows)) 0 =
    ap (count_in atom_cmp q) (same_live rows [] (λ n. e 0 n)) in
    let b = same_total q g [] (λ t n. e (suc t) n) in
    omega (arith, a, b)
same_total q (rows ∷ g) (more ∷ h) e =
    let a = ap (count_in atom_cmp q) (same_live rows more (λ n. e 0 n)) in
    let b = same_total q g h (λ t n. e (suc t) n) in
    omega (arith, a, b)

pub same_contents : (g h : Grid) → rows_in g ≡ rows_in h → contents g ≡ contents h
same_contents g h e = same_store _ _ (λ q. (
    let a = count_contents q g in
    let b = count_contents q h in
    let c = same_total q g h (λ t n. ap (λ (f : Tables). f t n) e) in
    omega (arith, a, b, c)))

-- a row that lives is in range
pub row_there : (ts : List Contents) (t n : ℕ) → IsTrue (is_some (rows_of ts t n)) → (t < length ts)
    × (n < length (get_or ts t no_table).rows)
row_there ts t n e =
    let l : t < length ts = elim (cases_lt t (length ts)) as (λ _. t < length ts) [
      | inl less ↦ less
      | inr most ↦ absurd (let z : is_some (rows_of ts t n) ≡ false =
          ap (λ (x : Contents). is_some (get_or x.rows n None)) (get_or_past ts t no_table most) in cc)
    ] in (
      l,
      elim (cases_lt n (length (get_or ts t no_table).rows)) as (λ _. n < length (get_or ts t no_table).rows) [
        | inl less ↦ less
        | inr most ↦ absurd (let z : is_some (rows_of ts t n) ≡ false =
            ap is_some (get_or_past (get_or ts t no_table).rows n None most) in cc)
      ],
    )

-- tables whose keys are the same have the same columns
pub same_columns : (ts us : List Contents) → map (λ (c : Contents). c.keys) ts ≡ map (λ (c : Contents). c.keys) us
    → index_columns ts ≡ index_columns us
same_columns ts us e j t i = (
    ap (λ ks. slice_get ks i) (sym (get_or-map (λ (c : Contents). c.keys) ts t no_table) ∙ ap (λ ks. get_or ks t []) e
    ∙ get_or-map (λ (c : Contents). c.keys) us t no_table)) j

pub keys_set : (ts : List Contents) (t : ℕ) (x : Contents) → x.keys ≡ (get_or ts t no_table).keys
    → map (λ (c : Contents). c.keys) (set ts t x) ≡ map (λ (c : Contents). c.keys) ts
keys_set ts t x e = map-set_same (λ (c : Contents). c.keys) ts t x no_table e

-- a row more
pub grid_set : (ts : List Contents) (t : ℕ) (x : Contents) → grid (set ts t x) ≡ set (grid ts) t x.rows
grid_set ts t x = map-set (λ (c : Contents). c.rows) ts t x

live_more : (q a : Atom) (rows : List (Option Atom)) → count_in atom_cmp q (live_atoms (rows ++ Some a ∷ []))
    ≡ count_in atom_cmp q (live_atoms rows) + count_in atom_cmp q (a ∷ [])
live_more q a [] = omega arith
live_more q a (None ∷ rows) = live_more q a rows
live_more q a (Some b ∷ rows) = let more = live_more q a rows in omega (arith, more)

total_more : (q a : Atom) (g : Grid) (t : ℕ) → t < length g → total_in q (set g t (get_or g t [] ++ Some a ∷ []))
    ≡ total_in q g + count_in atom_cmp q (a ∷ [])
total_more q a [] t l = absurd (omega (arith, l))
total_more q a (rows ∷ g) zero l = let more = live_more q a rows in omega (arith, more)
total_more q a (rows ∷ g) (suc t) l = let more = total_more q a g t (omega (arith, l)) in omega (arith, more)

pub contents_more : (g : Grid) (t : ℕ) (a : Atom) → t < length g → contents (set g t (get_or g t [] ++ Some a ∷ []))
    ≡ contents g ⊕ one a
contents_more g t a l = same_store _ _ (λ q. (
    let x = count_contents q (set g t (get_or g t [] ++ Some a ∷ [])) in
    let y = count_contents q g in
    let z = count-of_list atom_total (a ∷ []) q in
    let w = count_plus (contents g) (one a) q in
    let m = total_more q a g t l in
    omega (arith, x, y, z, w, m)))

-- what lives in the table with one row more lived before, or is the new atom there
last_row : (rows : List (Option Atom)) (a b : Atom) (n : ℕ) → get_or (rows ++ Some a ∷ []) n None ≡ Some b
    → (get_or rows n None ≡ Some b) ⊎ (a ≡ b)
last_row [] a b zero e = inr (let f : ◌≡◌ {A = Option Atom} (Some a) (Some b) = e in cc)
last_row [] a b (suc n) e = cc
last_row (o ∷ rows) a b zero e = inl e
last_row (o ∷ rows) a b (suc n) e = last_row rows a b n e

pub row_more : (g : Grid) (t t' n : ℕ) (a b : Atom) → rows_in (set g t (get_or g t [] ++ Some a ∷ [])) t' n ≡ Some b
    → (rows_in g t' n ≡ Some b) ⊎ ((t' ≡ t) × (a ≡ b))
row_more [] t t' n a b e = inl e
row_more (rows ∷ g) zero zero n a b e = elim (last_row rows a b n e) as (λ _. (get_or rows n None ≡ Some b)
    ⊎ ((zero ≡ zero) × (a ≡ b))) [ inl old ↦ inl old | inr new ↦ inr (refl, new) ]
row_more (rows ∷ g) zero (suc t') n a b e = inl e
row_more (rows ∷ g) (suc t) zero n a b e = inl e
row_more (rows ∷ g) (suc t) (suc t') n a b e = elim (row_more g t t' n a b e) as (λ _. (rows_in g t' n ≡ Some b)
    ⊎ ((suc t' ≡ suc t) × (a ≡ b))) [ inl old ↦ inl old | inr new ↦ inr (ap suc new.0, new.1) ]

-- what lives when others are killed lived before
pub row_stays : (rows : List (Option Atom)) (k n : ℕ) (b : Atom) → get_or (set rows k None) n None ≡ Some b
    → get_or rows n None ≡ Some b
row_stays [] k n b e = e
row_stays (o ∷ rows) zero zero b e = absurd (let f : ◌≡◌ {A = Option Atom} None (Some b) = e in cc)
row_stays (o ∷ rows) zero (suc n) b e = e
row_stays (o ∷ rows) (suc k) zero b e = e
row_stays (o ∷ rows) (suc k) (suc n) b e = row_stays rows k n b e

table_stays : (g : Grid) (t k t' n : ℕ) (b : Atom) → rows_in (without_row g (record { table = t; row = k })) t' n
    ≡ Some b → rows_in g t' n ≡ Some b
table_stays [] t k t' n b e = e
table_stays (rows ∷ g) zero k zero n b e = row_stays rows k n b e
table_stays (rows ∷ g) zero k (suc t') n b e = e
table_stays (rows ∷ g) (suc t) k zero n b e = e
table_stays (rows ∷ g) (suc t) k (suc t') n b e = table_stays g t k t' n b e

pub rows_stay : (g : Grid) (ss : List Seat) (t n : ℕ) (b : Atom) → rows_in (without_rows g ss) t n ≡ Some b
    → rows_in g t n ≡ Some b
rows_stay g [] t n b e = e
rows_stay g (s ∷ ss) t n b e = table_stays g s.table s.row t n b (rows_stay (without_row g s) ss t n b e)

-- one row after others
without_next : (g : Grid) (ss : List Seat) (i : ℕ) (s : Seat) → i < length ss → s ≡ get_or ss i s
    → without_rows g (take (suc i) ss) ≡ without_row (without_rows g (take i ss)) s
without_next g [] i s l e = absurd (omega (arith, l))
without_next g (x ∷ ss) zero s l e = ap (without_row g) (sym e)
without_next g (x ∷ ss) (suc i) s l e = without_next (without_row g x) ss i s (omega (arith, l)) e

pub without_more : (g : Grid) (ss : List Seat) (i : ℕ) (s : Seat) → i < length ss → s ≡ get_or ss i s
    → without_rows g (take (i + 1) ss) ≡ without_row (without_rows g (take i ss)) s
without_more g ss i s l e = ap (λ n. without_rows g (take n ss)) (let f : i + 1 ≡ suc i = omega arith in f)
    ∙ without_next g ss i s l e

pub killed_set : (ts : List Contents) (s : Seat) (x : Contents) → x.rows
    ≡ set (get_or ts s.table no_table).rows s.row None → grid (set ts s.table x) ≡ without_row (grid ts) s
killed_set ts s x e =
    grid_set ts s.table x
    ∙ ap (set (grid ts) s.table) (e ∙ ap (λ rows. set rows s.row None)
    (sym (get_or-map (λ (c : Contents). c.rows) ts s.table no_table)))

-- as many tables when rows die
length_without : (g : Grid) (ss : List Seat) → length (without_rows g ss) ≡ length g
length_without g [] = refl
length_without g (s ∷ ss) = length_without (without_row g s) ss ∙ length-set g s.table _

pub as_many_left : (ts us : List Contents) (ss : List Seat) → grid us ≡ without_rows (grid ts) ss → length us
    ≡ length ts
as_many_left ts us ss e =
    sym (length-map us (λ (c : Contents). c.rows)) ∙ ap length e ∙ length_without (grid ts) ss
    ∙ length-map ts (λ (c : Contents). c.rows)

-- as many rows in each table
abbrev pub AsMany : List Contents → List Contents → Type 0
AsMany ts us = (length ts ≡ length us) × ((t : ℕ) → length (get_or ts t no_table).rows
    ≡ length (get_or us t no_table).rows)

pub as_many_set : (ts us : List Contents) (t n : ℕ) (x : Contents) → x.rows ≡ set (get_or ts t no_table).rows n None
    → AsMany ts us → AsMany (set ts t x) us
as_many_set ts us t n x e h = (
  length-set ts t x ∙ h.0,
  λ k. (at k ∙ h.1 k),
)
  where
    lengths : length x.rows ≡ length (get_or ts t no_table).rows
    lengths = ap length e ∙ length-set (get_or ts t no_table).rows n None

    at : (k : ℕ) → length (get_or (set ts t x) k no_table).rows ≡ length (get_or ts k no_table).rows
    at k =
        sym (get_or-map (λ (c : Contents). length c.rows) (set ts t x) k no_table)
        ∙ ap (λ ns. get_or ns k 0) (map-set_same (λ (c : Contents). length c.rows) ts t x no_table lengths)
        ∙ get_or-map (λ (c : Contents). length c.rows) ts k no_table

-- the step of a walk that kills a row
module _ (ts us : List Contents) (ss : List Seat) (i : ℕ) (x y : Contents) (left : i < length ss)
    (within : (seat ss i).table < length ts) (here : x ≡ get_or ts (seat ss i).table x)
    (rows : y.rows ≡ set x.rows (seat ss i).row None) (keys : y.keys ≡ x.keys) where
  it : x ≡ get_or ts (seat ss i).table no_table
  it = here ∙ get_or_default ts (seat ss i).table x no_table within

  pub kill_rows : grid ts ≡ without_rows (grid us) (take i ss) → grid (set ts (seat ss i).table y)
      ≡ without_rows (grid us) (take (i + 1) ss)
  kill_rows e =
      killed_set ts (seat ss i) y (rows ∙ ap (λ (c : Contents). set c.rows (seat ss i).row None) it)
      ∙ ap (λ g. without_row g (seat ss i)) e
      ∙ sym (without_more (grid us) ss i (seat ss i) left (get_or_default ss i no_seat (seat ss i) left))

  pub kill_keys : map (λ (c : Contents). c.keys) ts ≡ map (λ (c : Contents). c.keys) us
      → map (λ (c : Contents). c.keys) (set ts (seat ss i).table y) ≡ map (λ (c : Contents). c.keys) us
  kill_keys e = keys_set ts (seat ss i).table y (keys ∙ ap (λ (c : Contents). c.keys) it) ∙ e

  pub kill_many : AsMany ts us → AsMany (set ts (seat ss i).table y) us
  kill_many h = as_many_set ts us (seat ss i).table (seat ss i).row y
      (rows ∙ ap (λ (c : Contents). set c.rows (seat ss i).row None) it) h
