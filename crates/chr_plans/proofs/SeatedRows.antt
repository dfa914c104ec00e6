-- What is within the tables' atoms sits in different rows, and leaves with them.
use Rattle.std.specs.Prelude.{◌≡◌, ℕ, zero, suc, ◌+◌, ◌<◌, ◌≤◌, List, [], ◌∷◌, length, get_or, set, cond, Bool, true}
use Rattle.std.specs.Prelude.{false, Option, Some, None, ◌⊎◌}
use Rattle.std.proofs.Common.{refl, sym, ap, ◌∙◌, arith, inl, inr}
use Rattle.std.specs.Ordering.{eq_by_cmp, is_eq}
use Rattle.std.specs.Cmp.{tied_itself}
use Rattle.std.proofs.lemmas.Bool.{cases_lt}
use Rattle.std.proofs.lemmas.List.{get_or-set_same, get_or-set_other, get_or_past, length-set}
use Rattle.chr_base.specs.Atoms.{atom_cmp}
use Rattle.chr_base.specs.declared.atom.Atom.{Atom}
use Rattle.chr_base.specs.FinBag.{◌⊖◌, IsWithin, count_in}
use Rattle.chr_base.specs.Stores.{store_of, count}
use Rattle.chr_base.proofs.Atoms.{atom_total, same_is}
use Rattle.chr_base.proofs.FinBags.{count-of_list, count-empty}
use Rattle.chr_base.proofs.Stores.{count_plus, count_minus, same_store}
use Rattle.chr_plans.specs.declared.rows.Seat.{Seat}
use Rattle.chr_plans.specs.Seats.{head, seat}
use Rattle.chr_plans.specs.Grids.{Grid, live_atoms, contents, rows_in, without_row, without_rows, SitIn}
use Rattle.chr_plans.specs.Laws.{RowsLeave}

-- how often an atom lives in the tables
abbrev pub total_in : Atom → Grid → ℕ
total_in q [] = 0
total_in q (rows ∷ ts) = count_in atom_cmp q (live_atoms rows) + total_in q ts

pub count_contents : (q : Atom) (ts : Grid) → count (contents ts) q ≡ total_in q ts
count_contents q [] = count-empty atom_cmp q
count_contents q (rows ∷ ts) =
    let a = count_plus (store_of (live_atoms rows)) (contents ts) q in
    let b = count-of_list atom_total (live_atoms rows) q in
    let c = count_contents q ts in
    omega (arith, a, b, c)

-- a row of a table, and what is left without it
abbrev RowOf : List (Option Atom) → Atom → Type 0
RowOf rows x = (n : ℕ) × (n < length rows) × (get_or rows n None ≡ Some x)
    × ((q : Atom) → count_in atom_cmp q (live_atoms (set rows n None)) + cond (eq_by_cmp atom_cmp q x) 1 0
    ≡ count_in atom_cmp q (live_atoms rows))

row_of : (rows : List (Option Atom)) (x : Atom) → 0 < count_in atom_cmp x (live_atoms rows) → RowOf rows x
row_of [] x h = absurd (omega (arith, h))
row_of (None ∷ rows) x h = let w = row_of rows x h in (suc w.0, (let l = w.1 in omega (arith, l)), w.2, w.3)
row_of (Some a ∷ rows) x h = by (eq_by_cmp atom_cmp x a) refl (row_of rows x)
  where
    by : (b : Bool) → eq_by_cmp atom_cmp x a ≡ b → (0 < count_in atom_cmp x (live_atoms rows) → RowOf rows x)
        → RowOf (Some a ∷ rows) x
    by true e more =
        let same : x ≡ a = same_is x a e in (
          0,
          omega arith,
          ap Some (sym same),
          λ q. (let f : ◌≡◌ {A = ℕ} (cond (eq_by_cmp atom_cmp q x) 1 0)
              (cond (eq_by_cmp atom_cmp q a) 1 0) = ap (λ k. cond (eq_by_cmp atom_cmp q k) 1 0) same in
              omega (arith, f)),
        )
    by false e more =
        let f : ◌≡◌ {A = ℕ} (cond (eq_by_cmp atom_cmp x a) 1 0) 0 = ap (λ b. cond b 1 0) e in
        let w = more (omega (arith, h, f)) in
        (suc w.0, (let l = w.1 in omega (arith, l)), w.2, λ q. (let g = w.3 q in omega (arith, g)))

abbrev PlaceOf : Grid → Atom → Type 0
PlaceOf ts x = (t : ℕ) × (n : ℕ) × (rows_in ts t n ≡ Some x)
    × ((q : Atom) → total_in q (without_row ts (record { table = t; row = n })) + cond (eq_by_cmp atom_cmp q x) 1 0
    ≡ total_in q ts)

place_of : (ts : Grid) (x : Atom) → 0 < total_in x ts → PlaceOf ts x
place_of [] x h = absurd (omega (arith, h))
place_of (rows ∷ ts) x h = elim (cases_lt 0 (count_in atom_cmp x (live_atoms rows))) as (λ _. PlaceOf (rows ∷ ts) x) [
  | inl some ↦ (let w = row_of rows x some in (0, w.0, w.2, λ q. (let g = w.3 q in omega (arith, g))))
  | inr none ↦ (let w = place_of ts x (omega (arith, h, none)) in
      (suc w.0, w.1, w.2, λ q. (let g = w.3 q in omega (arith, g))))
]

-- a row that lives after another is gone lived before, and is another
killed_row : (ts : Grid) (t n t' n' : ℕ) (y : Atom) → rows_in (without_row ts (record { table = t; row = n })) t' n'
    ≡ Some y → (rows_in ts t' n' ≡ Some y) × (t' ≡ t → n' ≡ n → ⊥)
killed_row ts t n t' n' y e = elim (same_or t' t) as (λ _. (rows_in ts t' n' ≡ Some y) × (t' ≡ t → n' ≡ n → ⊥)) [
  | inr other ↦ (
    ap (λ rows. get_or rows n' None) (sym (get_or-set_other ts t t' (set (get_or ts t []) n None) []
        other)) ∙ e,
    λ a b. other a,
  )
  | inl same ↦ elim (cases_lt t (length ts)) as (λ _. (rows_in ts t' n' ≡ Some y) × (t' ≡ t → n' ≡ n → ⊥)) [
    | inr past ↦ (let z : rows_in (without_row ts (record { table = t; row = n })) t' n' ≡ None =
        ap (λ rows. get_or rows n' None) (get_or_past (without_row ts (record { table = t; row = n })) t' []
        (let l = length-set ts t (set (get_or ts t []) n None) in omega (arith, l, same, past))) in cc)
    | inl within ↦ (let here : get_or (without_row ts (record { table = t; row = n })) t' []
        ≡ set (get_or ts t []) n None = ap (λ k. get_or (without_row ts (record { table = t; row = n })) k []) same
        ∙ get_or-set_same ts t (set (get_or ts t []) n None) [] within in
        let f : get_or (set (get_or ts t []) n None) n' None ≡ Some y = ap (λ rows. get_or rows n' None) (sym here)
        ∙ e in
        elim (same_or n' n) as (λ _. (rows_in ts t' n' ≡ Some y) × (t' ≡ t → n' ≡ n → ⊥)) [
          | inr differ ↦ (
            ap (λ k. rows_in ts k n') same ∙ sym (get_or-set_other (get_or ts t []) n n' None None differ)
                ∙ f,
            λ a b. differ b,
          )
          | inl alike ↦ absurd (let z : get_or (set (get_or ts t []) n None) n' None ≡ None =
              ap (λ k. get_or (set (get_or ts t []) n None) k None) alike ∙ none_at (get_or ts t []) n in cc)
        ])
  ]
]
  where
    same_or : (m n : ℕ) → (m ≡ n) ⊎ (m ≡ n → ⊥)
    same_or m n = elim (cases_lt m n) as (λ _. (m ≡ n) ⊎ (m ≡ n → ⊥)) [
      | inl less ↦ inr (λ e. (absurd (omega (arith, e, less))))
      | inr most ↦ elim (cases_lt n m) as (λ _. (m ≡ n) ⊎ (m ≡ n → ⊥)) [
        | inl more ↦ inr (λ e. (absurd (omega (arith, e, more))))
        | inr least ↦ inl (omega (arith, most, least))
      ]
    ]

    none_at : (rows : List (Option Atom)) (k : ℕ) → get_or (set rows k None) k None ≡ None
    none_at [] k = refl
    none_at (o ∷ rows) zero = refl
    none_at (o ∷ rows) (suc k) = none_at rows k

-- what is within the tables has rows in them
pub seated : (ts : Grid) (xs : List Atom) → ((q : Atom) → count_in atom_cmp q xs ≤ total_in q ts) → (ss : List Seat)
    × SitIn ts xs ss
seated ts [] h = (
  [],
  record {
    as_many = refl;
    there = λ q l. (absurd (omega (arith, l)));
    apart =
        λ q k l g e. (absurd (omega (arith, g)));
  },
)
seated ts (x ∷ xs) h =
    let e : ◌≡◌ {A = ℕ} (cond (eq_by_cmp atom_cmp x x) 1 0) 1 =
    ap (λ o. cond (is_eq o) 1 0) (tied_itself atom_total x) in
    let w = place_of ts x (let a = h x in omega (arith, a, e)) in
    let more = seated (without_row ts (record { table = w.0; row = w.1 })) xs
    (λ q. (let a = h q in let b = w.3 q in omega (arith, a, b))) in
    let old = λ (q : ℕ) (l : q < length xs). killed_row ts w.0 w.1 (seat more.0 q).table (seat more.0 q).row (head xs q)
    (more.1.there q l) in (
      record { table = w.0; row = w.1 } ∷ more.0,
      record {
        as_many = ap suc more.1.as_many;
        there = λ q l. there x xs w.0 w.1 w.2 more.0 (λ k g. (old k g).0) q l;
        apart = λ q k l g s. apart xs w.0 w.1 more.0 (λ i j. more.1.apart i j) (λ i b t r. (old i b).1 t r) q k l g s;
      },
    )
  where
    there : (x : Atom) (xs : List Atom) (t n : ℕ) → rows_in ts t n ≡ Some x → (ss : List Seat)
        → ((q : ℕ) → q < length xs → rows_in ts (seat ss q).table (seat ss q).row ≡ Some (head xs q))
        → (q : ℕ) → q < suc (length xs) → rows_in ts (seat (record { table = t; row = n } ∷ ss) q).table
        (seat (record { table = t; row = n } ∷ ss) q).row ≡ Some (head (x ∷ xs) q)
    there x xs t n is ss more zero l = is
    there x xs t n is ss more (suc q) l = more q (omega (arith, l))

    apart : (xs : List Atom) (t n : ℕ) (ss : List Seat)
        → ((i j : ℕ) → i < j → j < length xs → seat ss i ≡ seat ss j → ⊥)
        → ((i : ℕ) → i < length xs → (seat ss i).table ≡ t → (seat ss i).row ≡ n → ⊥)
        → (q k : ℕ) → q < k → k < suc (length xs) → seat (record { table = t; row = n } ∷ ss) q
        ≡ seat (record { table = t; row = n } ∷ ss) k → ⊥
    apart xs t n ss more other q zero l g e = absurd (omega (arith, l))
    apart xs t n ss more other zero (suc k) l g e = other k (omega (arith, g)) (ap (λ (s : Seat). s.table) (sym e))
        (ap (λ (s : Seat). s.row) (sym e))
    apart xs t n ss more other (suc q) (suc k) l g e = more q k (omega (arith, l)) (omega (arith, g)) e

-- a row that goes takes its atom
row_gone : (rows : List (Option Atom)) (n : ℕ) (x q : Atom) → get_or rows n None ≡ Some x
    → count_in atom_cmp q (live_atoms (set rows n None)) + cond (eq_by_cmp atom_cmp q x) 1 0
    ≡ count_in atom_cmp q (live_atoms rows)
row_gone [] n x q e = cc
row_gone (None ∷ rows) zero x q e = cc
row_gone (Some a ∷ rows) zero x q e =
    let same : a ≡ x = cc in
    let f : ◌≡◌ {A = ℕ} (cond (eq_by_cmp atom_cmp q a) 1 0) (cond (eq_by_cmp atom_cmp q x) 1 0) =
    ap (λ k. cond (eq_by_cmp atom_cmp q k) 1 0) same in
    omega (arith, f)
row_gone (None ∷ rows) (suc n) x q e = row_gone rows n x q e
row_gone (Some a ∷ rows) (suc n) x q e = let more = row_gone rows n x q e in omega (arith, more)

table_gone : (ts : Grid) (t n : ℕ) (x q : Atom) → rows_in ts t n ≡ Some x
    → total_in q (without_row ts (record { table = t; row = n })) + cond (eq_by_cmp atom_cmp q x) 1 0 ≡ total_in q ts
table_gone [] t n x q e = cc
table_gone (rows ∷ ts) zero n x q e = let more = row_gone rows n x q e in omega (arith, more)
table_gone (rows ∷ ts) (suc t) n x q e = let more = table_gone ts t n x q e in omega (arith, more)

-- where one row dies, the other rows stay
other_row : (ts : Grid) (t n t' n' : ℕ) → (t' ≡ t → n' ≡ n → ⊥)
    → rows_in (without_row ts (record { table = t; row = n })) t' n' ≡ rows_in ts t' n'
other_row [] t n t' n' h = refl
other_row (rows ∷ ts) zero n zero n' h = get_or-set_other rows n n' None None (λ e. h refl e)
other_row (rows ∷ ts) zero n (suc t') n' h = refl
other_row (rows ∷ ts) (suc t) n zero n' h = refl
other_row (rows ∷ ts) (suc t) n (suc t') n' h = other_row ts t n t' n' (λ e f. h (ap suc e) f)

-- Rows that die, all different, take their atoms: these were within the tables, and what is left is the tables without
-- them.
rows_gone : (ts : Grid) (xs : List Atom) (ss : List Seat) (q : Atom) → SitIn ts xs ss
    → total_in q (without_rows ts ss) + count_in atom_cmp q xs ≡ total_in q ts
rows_gone ts [] [] q are = omega arith
rows_gone ts [] (s ∷ ss) q are = absurd (let n = are.as_many in omega (arith, n))
rows_gone ts (x ∷ xs) [] q are = absurd (let n = are.as_many in omega (arith, n))
rows_gone ts (x ∷ xs) (s ∷ ss) q are =
    let one = table_gone ts s.table s.row x q (are.there 0 (omega arith)) in
    let more = rows_gone (without_row ts s) xs ss q (record {
      as_many = (let n = are.as_many in omega (arith, n));
      there = λ k l. (other_row ts s.table s.row (seat ss k).table (seat ss k).row
          (λ e f. are.apart 0 (suc k) (omega arith) (omega (arith, l)) (λ i. record { table = sym e i; row = sym f i }))
          ∙ are.there (suc k) (omega (arith, l)));
      apart = λ i j l g e. are.apart (suc i) (suc j) (omega (arith, l)) (omega (arith, g)) e;
    }) in
    omega (arith, one, more)

seats_within : (ts : Grid) (xs : List Atom) (ss : List Seat) → SitIn ts xs ss → IsWithin (store_of xs) (contents ts)
seats_within ts xs ss are q =
    let a = rows_gone ts xs ss q are in
    let b = count_contents q ts in
    let c = count-of_list atom_total xs q in
    omega (arith, a, b, c)

seats_leave : (ts : Grid) (xs : List Atom) (ss : List Seat) → SitIn ts xs ss → contents (without_rows ts ss)
    ≡ contents ts ⊖ store_of xs
seats_leave ts xs ss are = same_store _ _ (λ q. (
    let a = rows_gone ts xs ss q are in
    let b = count_contents q ts in
    let d = count_contents q (without_rows ts ss) in
    let c = count-of_list atom_total xs q in
    let m = count_minus (contents ts) (store_of xs) q in
    omega (arith, a, b, c, d, m)))

pub rows_leave : RowsLeave
rows_leave ts xs ss are = (seats_within ts xs ss are, seats_leave ts xs ss are)
