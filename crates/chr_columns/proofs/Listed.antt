-- The atoms in tables as a list, and how often each stands there.
use Rattle.std.specs.Prelude.{Some, None, Option, Result, Ok, Err, OnOk}
use Rattle.std.proofs.Common.{◌≡◌, ℕ, zero, suc, ◌+◌, List, [], ◌∷◌, ◌++◌, map, get_or, take, cond, Bool, true, false}
use Rattle.std.proofs.Common.{refl, sym, ap, ◌∙◌, arith, append_assoc}
use Rattle.std.specs.Ordering.{eq_by_cmp}
use Rattle.chr_base.specs.declared.atom.Atom.{Atom}
use Rattle.chr_base.specs.Atoms.{atom_cmp}
use Rattle.chr_base.specs.FinBag.{◌⊕◌, count_in}
use Rattle.chr_base.specs.Stores.{Store, store_of}
use Rattle.chr_base.proofs.Atoms.{same_is}
use Rattle.chr_base.proofs.FinBags.{of_list-none}
use Rattle.chr_base.proofs.Stores.{store_of-append, plus_empty}
use Rattle.chr_tables.specs.Contents.{Contents}
use Rattle.chr_plans.specs.Grids.{Grid, live_atoms, contents, rows_in}
use Rattle.chr_plans.proofs.SeatedRows.{total_in}
use Rattle.chr_columns.specs.working.Resting.{grid}
use Rattle.chr_columns.specs.working.Listing.{live_in, rows_in_turn, all_of}

live_append : (xs ys : List (Option Atom)) → live_atoms (xs ++ ys) ≡ live_atoms xs ++ live_atoms ys
live_append [] ys = refl
live_append (None ∷ xs) ys = live_append xs ys
live_append (Some a ∷ xs) ys = ap (λ as'. a ∷ as') (live_append xs ys)

live_fresh : (fresh : List Atom) → live_atoms (map (λ a. Some a) fresh) ≡ fresh
live_fresh [] = refl
live_fresh (a ∷ fresh) = ap (λ as'. a ∷ as') (live_fresh fresh)

pub store_live : (ts : List Contents) → store_of (live_in ts) ≡ contents (grid ts)
store_live [] = of_list-none atom_cmp
store_live (t ∷ ts) = store_of-append (live_atoms t.rows) (live_in ts) ∙ ap (λ s. store_of (live_atoms t.rows) ⊕ s)
    (store_live ts)

-- the list of the atoms in the tables and of the fresh ones is the store of all
pub store_all : (ts : List Contents) (fresh : List Atom) → store_of (live_in ts ++ fresh) ≡ all_of ts fresh
store_all ts fresh = store_of-append (live_in ts) fresh ∙ ap (λ s. s ⊕ store_of fresh) (store_live ts)

-- where the list of all atoms is put behind others, their store joins the store of those
pub pushed_all : {A E : Type 0} (r : Result A E) (ts : List Contents) (fresh xs ys : List Atom) (now : Store)
    → all_of ts fresh ≡ now → OnOk r (ys ≡ xs ++ live_in ts ++ fresh) → OnOk r (store_of ys ≡ store_of xs ⊕ now)
pushed_all (Ok x) ts fresh xs ys now is e =
    ap store_of (e ∙ append_assoc xs (live_in ts) fresh) ∙ store_of-append xs (live_in ts ++ fresh)
    ∙ ap (λ s. store_of xs ⊕ s) (store_all ts fresh ∙ is)
pushed_all (Err x) ts fresh xs ys now is e = tt

live_turn : (ts : List Contents) (fresh : List Atom) → live_atoms (rows_in_turn ts fresh) ≡ live_in ts ++ fresh
live_turn [] fresh = live_fresh fresh
live_turn (t ∷ ts) fresh = live_append t.rows (rows_in_turn ts fresh) ∙ ap (λ xs. live_atoms t.rows ++ xs)
    (live_turn ts fresh) ∙ sym (append_assoc (live_atoms t.rows) (live_in ts) fresh)

pub contents_turn : (ts : List Contents) (fresh : List Atom) → contents (rows_in_turn ts fresh ∷ []) ≡ all_of ts fresh
contents_turn ts fresh = plus_empty (store_of (live_atoms (rows_in_turn ts fresh))) ∙ ap store_of (live_turn ts fresh)
    ∙ store_all ts fresh

-- one row more
live_next : (rows : List (Option Atom)) (i : ℕ) (a : Atom) → get_or rows i None ≡ Some a
    → live_atoms (take (suc i) rows) ≡ live_atoms (take i rows) ++ a ∷ []
live_next [] i a e = absurd (let f : ◌≡◌ {A = Option Atom} None (Some a) = e in cc)
live_next (None ∷ rows) zero a e = absurd (let f : ◌≡◌ {A = Option Atom} None (Some a) = e in cc)
live_next (Some b ∷ rows) zero a e = let f : b ≡ a = cc in ap (λ c. c ∷ []) f
live_next (None ∷ rows) (suc i) a e = live_next rows i a e
live_next (Some b ∷ rows) (suc i) a e = ap (λ as'. b ∷ as') (live_next rows i a e)

pub live_more : (rows : List (Option Atom)) (i : ℕ) (a : Atom) → get_or rows i None ≡ Some a
    → live_atoms (take (i + 1) rows) ≡ live_atoms (take i rows) ++ a ∷ []
live_more rows i a e = ap (λ n. live_atoms (take n rows)) (let f : i + 1 ≡ suc i = omega arith in f)
    ∙ live_next rows i a e

dead_next : (rows : List (Option Atom)) (i : ℕ) → get_or rows i None ≡ None → live_atoms (take (suc i) rows)
    ≡ live_atoms (take i rows)
dead_next [] zero e = refl
dead_next [] (suc i) e = refl
dead_next (None ∷ rows) zero e = refl
dead_next (Some b ∷ rows) zero e = absurd (let f : ◌≡◌ {A = Option Atom} (Some b) None = e in cc)
dead_next (None ∷ rows) (suc i) e = dead_next rows i e
dead_next (Some b ∷ rows) (suc i) e = ap (λ as'. b ∷ as') (dead_next rows i e)

pub dead_more : (rows : List (Option Atom)) (i : ℕ) → get_or rows i None ≡ None → live_atoms (take (i + 1) rows)
    ≡ live_atoms (take i rows)
dead_more rows i e = ap (λ n. live_atoms (take n rows)) (let f : i + 1 ≡ suc i = omega arith in f) ∙ dead_next rows i e

-- an atom that lives in no row is not counted
none_counted : (rows : List (Option Atom)) (a : Atom) → ((n : ℕ) → get_or rows n None ≡ Some a → ⊥)
    → count_in atom_cmp a (live_atoms rows) ≡ 0
none_counted [] a h = refl
none_counted (None ∷ rows) a h = none_counted rows a (λ n. h (suc n))
none_counted (Some b ∷ rows) a h = by (eq_by_cmp atom_cmp a b) refl (none_counted rows a (λ n. h (suc n)))
  where
    by : (t : Bool) → eq_by_cmp atom_cmp a b ≡ t → count_in atom_cmp a (live_atoms rows) ≡ 0
        → count_in atom_cmp a (b ∷ live_atoms rows) ≡ 0
    by true e more = absurd (h 0 (ap Some (sym (same_is a b e))))
    by false e more = let f : ◌≡◌ {A = ℕ} (cond (eq_by_cmp atom_cmp a b) 1 0) 0 = ap (λ t. cond t 1 0) e in
        omega (arith, f, more)

pub none_in : (g : Grid) (a : Atom) → ((t n : ℕ) → rows_in g t n ≡ Some a → ⊥) → total_in a g ≡ 0
none_in [] a h = refl
none_in (rows ∷ g) a h =
    let here = none_counted rows a (λ n. h 0 n) in
    let more = none_in g a (λ t n. h (suc t) n) in
    omega (arith, here, more)

-- an atom that lives in one table alone is counted there
pub counted_at : (g : Grid) (t : ℕ) (a : Atom) → ((u n : ℕ) → rows_in g u n ≡ Some a → u ≡ t) → total_in a g
    ≡ count_in atom_cmp a (live_atoms (get_or g t []))
counted_at [] t a h = refl
counted_at (rows ∷ g) zero a h = let more = none_in g a
    (λ u n e. (absurd (let f = h (suc u) n e in omega (arith, f)))) in omega (arith, more)
counted_at (rows ∷ g) (suc t) a h =
    let here = none_counted rows a (λ n e. (absurd (let f = h 0 n e in omega (arith, f)))) in
    let more = counted_at g t a (λ u n e. (let f = h (suc u) n e in omega (arith, f))) in
    omega (arith, here, more)
