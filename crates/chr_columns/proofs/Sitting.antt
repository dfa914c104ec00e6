-- From the numbers of rows to the rows of tables and of fresh atoms.
use Rattle.std.specs.Prelude.{Some, None, if◌then◌else◌, nat_lt}
use Rattle.std.proofs.Common.{◌≡◌, ℕ, suc, ◌+◌, ◌-◌, ◌<◌, ◌≤◌, List, [], ◌∷◌, ◌++◌, map, length, get_or, set, take}
use Rattle.std.proofs.Common.{drop, Bool, true, false, refl, sym, ap, ◌∙◌, arith}
use mathlib.Core.Bool.{true≢false}
use Rattle.std.proofs.lemmas.Bool.Decides.{nat_tests}
use Rattle.std.proofs.Math.ListN.{get_or-append, get_or-map}
use Rattle.std.proofs.Math.Seq.{get_or-append_right, take-append_seam}
use Rattle.std.specs.List.{refill}
use Rattle.std.proofs.lemmas.List.{length-map, length-set, get_or_default}
use Rattle.chr_base.specs.declared.atom.Atom.{Atom}
use Rattle.chr_plans.specs.declared.rows.Seat.{Seat}
use Rattle.chr_plans.specs.Seats.{head, seat, no_seat}
use Rattle.chr_tables.specs.Contents.{Contents, rows_of}
use Rattle.chr_plans.specs.Grids.{rows_in, SitIn}
use Rattle.chr_columns.specs.declared.rows.Row.{Row}
use Rattle.chr_columns.specs.declared.rows.Row.TheVariants.{AtRest, Fresh}
use Rattle.chr_columns.specs.Rows.{row}
use Rattle.chr_columns.specs.working.Listing.{rows_in_turn}
use Rattle.chr_columns.specs.working.Sitting.{row_from, atom_of, SitAmong}
use Rattle.chr_columns.proofs.Turns.{in_table}

-- a list that one of its elements is written into through a slice
pub set_back : {X : Type 0} (xs ys : List X) (i : ℕ) (x : X) → ys ≡ xs → refill (length xs) xs (set ys i x) ≡ set xs i x
set_back xs ys i x e =
    ap (λ zs. refill (length xs) xs (set zs i x)) e
    ∙ ap (λ n. take n (set xs i x ++ drop (length (set xs i x)) xs)) (sym (length-set xs i x))
    ∙ take-append_seam (set xs i x) (drop (length (set xs i x)) xs)

-- the parts of a row
abbrev is_fresh : Row → Bool
is_fresh (AtRest s) = false
is_fresh (Fresh n) = true

abbrev table_in : Row → ℕ
table_in (AtRest s) = s.table
table_in (Fresh n) = 0

abbrev number_in : Row → ℕ
number_in (AtRest s) = s.row
number_in (Fresh n) = n

less_than : (n m : ℕ) → nat_lt n m ≡ true → n < m
less_than n m e = grind (arith, nat_tests)

at_least : (n m : ℕ) → nat_lt n m ≡ false → m ≤ n
at_least n m e = grind (arith, nat_tests)

-- the row with a number, in the first table or in others
abbrev row_by : Bool → ℕ → ℕ → Row → Row
row_by b k n other = if b then AtRest (record { table = k; row = n }) else other

-- a row of later tables is fresh, or in one of them
later : (ts : List Contents) (k n : ℕ) → is_fresh (row_from ts k n) ≡ false → k ≤ table_in (row_from ts k n)
later [] k n e = absurd (true≢false e)
later (t ∷ ts) k n e = by (nat_lt n (length t.rows)) (row_from ts (suc k) (n - length t.rows))
    (later ts (suc k) (n - length t.rows)) e
  where
    by : (b : Bool) (other : Row) → (is_fresh other ≡ false → suc k ≤ table_in other) → is_fresh (row_by b k n other)
        ≡ false → k ≤ table_in (row_by b k n other)
    by true other h f = omega arith
    by false other h f = let l = h f in omega (arith, l)

-- the number of a row is known from it
pub one_number : (ts : List Contents) (k m n : ℕ) → row_from ts k m ≡ row_from ts k n → m ≡ n
one_number [] k m n e = ap number_in e
one_number (t ∷ ts) k m n e =
    by (nat_lt m (length t.rows)) (nat_lt n (length t.rows)) refl refl (row_from ts (suc k) (m - length t.rows))
    (row_from ts (suc k) (n - length t.rows))
    (later ts (suc k) (m - length t.rows)) (later ts (suc k) (n - length t.rows))
    (one_number ts (suc k) (m - length t.rows) (n - length t.rows)) e
  where
    apart : (i : ℕ) (other : Row) → (is_fresh other ≡ false → suc k ≤ table_in other)
        → AtRest (record { table = k; row = i }) ≡ other → ⊥
    apart i other h f = absurd (
        let l = h (sym (ap is_fresh f)) in
        let g = ap table_in f in
        omega (arith, l, g))

    by : (b c : Bool) → nat_lt m (length t.rows) ≡ b → nat_lt n (length t.rows) ≡ c → (x y : Row)
        → (is_fresh x ≡ false → suc k ≤ table_in x) → (is_fresh y ≡ false → suc k ≤ table_in y)
        → (x ≡ y → m - length t.rows ≡ n - length t.rows)
        → row_by b k m x ≡ row_by c k n y → m ≡ n
    by true true f g x y lx ly one h = ap number_in h
    by true false f g x y lx ly one h = absurd (apart m y ly h)
    by false true f g x y lx ly one h = absurd (apart n x lx (sym h))
    by false false f g x y lx ly one h =
        let l = one h in
        let i = at_least m (length t.rows) f in
        let j = at_least n (length t.rows) g in
        omega (arith, l, i, j)

-- the row with a number has the atom with this number; the tables are the last of all
same_atom : (all ts : List Contents) (fresh : List Atom) (k n : ℕ)
    → ((t i : ℕ) → rows_of all (k + t) i ≡ rows_of ts t i)
    → atom_of all fresh (row_from ts k n) ≡ get_or (rows_in_turn ts fresh) n None
same_atom all [] fresh k n h = refl
same_atom all (t ∷ ts) fresh k n h =
    by (nat_lt n (length t.rows)) refl (row_from ts (suc k) (n - length t.rows))
    (same_atom all ts fresh (suc k) (n - length t.rows)
    (λ j i. ap (λ x. rows_of all x i) (let f : suc k + j ≡ k + suc j = omega arith in f) ∙ h (suc j) i))
  where
    by : (b : Bool) → nat_lt n (length t.rows) ≡ b → (other : Row) → atom_of all fresh other
        ≡ get_or (rows_in_turn ts fresh) (n - length t.rows) None
        → atom_of all fresh (row_by b k n other) ≡ get_or (t.rows ++ rows_in_turn ts fresh) n None
    by true e other same =
        ap (λ j. rows_of all j n) (let f : k ≡ k + 0 = omega arith in f) ∙ h 0 n
        ∙ sym (get_or-append t.rows (rows_in_turn ts fresh) None n (less_than n (length t.rows) e))
    by false e other same = same ∙ sym (get_or-append_right t.rows (rows_in_turn ts fresh) n None
        (at_least n (length t.rows) e))

pub atom_at_row : (ts : List Contents) (fresh : List Atom) (n : ℕ) → atom_of ts fresh (row_from ts 0 n)
    ≡ get_or (rows_in_turn ts fresh) n None
atom_at_row ts fresh n = same_atom ts ts fresh 0 n (λ t i. ap (λ x. rows_of ts x i)
    (let f : 0 + t ≡ t = omega arith in f))

-- what sits in rows by their numbers sits in these rows
module _ (ts : List Contents) (fresh : List Atom) (heads : List Atom) (seats : List Seat)
    (sit : SitIn (rows_in_turn ts fresh ∷ []) heads seats) where
  abbrev rows : List Row
  rows = map (λ s. row_from ts 0 s.row) seats

  many : length rows ≡ length heads
  many = length-map seats (λ s. row_from ts 0 s.row) ∙ sit.as_many

  row_is : (q : ℕ) → q < length heads → row rows q ≡ row_from ts 0 (seat seats q).row
  row_is q l =
      get_or_default rows q (Fresh 0) (row_from ts 0 no_seat.row) (let m = many in omega (arith, l, m))
      ∙ get_or-map (λ s. row_from ts 0 s.row) seats q no_seat

  here : (q : ℕ) → q < length heads → (seat seats q).table ≡ 0
  here q l = in_table (rows_in_turn ts fresh) (seat seats q).table (seat seats q).row (head heads q) (sit.there q l)

  numbered : (q : ℕ) → q < length heads → get_or (rows_in_turn ts fresh) (seat seats q).row None ≡ Some (head heads q)
  numbered q l = ap (λ t. rows_in (rows_in_turn ts fresh ∷ []) t (seat seats q).row) (sym (here q l)) ∙ sit.there q l

  pub sit_among : SitAmong ts fresh heads rows
  sit_among = record {
    as_many = many;
    there = λ q l. (ap (atom_of ts fresh) (row_is q l) ∙ atom_at_row ts fresh (seat seats q).row ∙ numbered q l);
    apart = λ q k l h same. (
        let hk : k < length heads = (let m = many in omega (arith, h, m)) in
        let hq : q < length heads = omega (arith, l, hk) in
        let numbers = one_number ts 0 (seat seats q).row (seat seats k).row (sym (row_is q hq) ∙ same ∙ row_is k hk) in
        let tables : (seat seats q).table ≡ (seat seats k).table = here q hq ∙ sym (here k hk) in
        sit.apart q k l hk (λ i. record { table = tables i; row = numbers i }));
  }
