-- Atoms that are counted and taken out.
use Rattle.std.specs.Prelude.{Some, None, Option}
use Rattle.std.proofs.Common.{◌≡◌, ℕ, zero, suc, ◌+◌, ◌<◌, ◌≤◌, List, [], ◌∷◌, length, get_or, take, cond, Bool}
use Rattle.std.proofs.Common.{true, false, refl, sym, ap, ◌∙◌, arith, inl, inr, ◌⊎◌}
use Rattle.std.specs.Ordering.{eq_by_cmp}
use Rattle.std.proofs.Math.ListN.{get_or-map}
use Rattle.std.proofs.lemmas.List.{get_or_default}
use Rattle.chr_base.specs.declared.atom.Atom.{Atom}
use Rattle.chr_base.specs.declared.rule.Rule.{Rule}
use Rattle.chr_base.specs.Atoms.{atom_cmp, no_atom}
use Rattle.chr_base.specs.FinBag.{◌⊕◌, ◌⊖◌, IsWithin, count_in, without, items}
use Rattle.chr_base.specs.Stores.{Store, store_of, count}
use Rattle.chr_base.proofs.Atoms.{atom_total, same_is}
use Rattle.chr_base.proofs.FinBags.{count-of_list, count-items, count_in-without, total-append}
use Rattle.chr_base.proofs.ListEdits.{within_each, count_in_more}
use Rattle.chr_base.proofs.Stores.{same_store, count_plus, count_minus, split}
use Rattle.chr_plans.specs.declared.rows.Seat.{Seat}
use Rattle.chr_plans.specs.Seats.{seat}
use Rattle.chr_tables.specs.Contents.{Contents, no_table, rows_of, index_columns}
use Rattle.chr_plans.specs.Actives.{one}
use Rattle.chr_plans.specs.Grids.{live_atoms, contents, rows_in, without_rows, SitIn}
use Rattle.chr_plans.proofs.SeatedRows.{count_contents, rows_leave}
use Rattle.chr_columns.specs.declared.groups.Group.{Group}
use Rattle.chr_columns.specs.working.Groups.{table_of_atom}
use Rattle.chr_columns.specs.working.Resting.{grid, IsSetUp}
use Rattle.chr_columns.proofs.Listed.{live_more, dead_more, counted_at}
use Rattle.chr_columns.proofs.Stored.{row_is}

-- how often an atom lives in one row more
pub counted_more : (q a : Atom) (rows : List (Option Atom)) (i : ℕ) → get_or rows i None ≡ Some a
    → count_in atom_cmp q (live_atoms (take (i + 1) rows)) ≡ count_in atom_cmp q (live_atoms (take i rows)) + cond
    (eq_by_cmp atom_cmp q a) 1 0
counted_more q a rows i e =
    let f = ap (count_in atom_cmp q) (live_more rows i a e) in
    let g = total-append (λ x. cond (eq_by_cmp atom_cmp q x) 1 0) (live_atoms (take i rows)) (a ∷ []) in
    omega (arith, f, g)

pub counted_dead : (q : Atom) (rows : List (Option Atom)) (i : ℕ) → get_or rows i None ≡ None
    → count_in atom_cmp q (live_atoms (take (i + 1) rows)) ≡ count_in atom_cmp q (live_atoms (take i rows))
counted_dead q rows i e = ap (count_in atom_cmp q) (dead_more rows i e)

pub counts_as : (q a : Atom) (b : Bool) → eq_by_cmp atom_cmp q a ≡ b → ◌≡◌ {A = ℕ} (cond (eq_by_cmp atom_cmp q a) 1 0)
    (cond b 1 0)
counts_as q a b e = ap (λ t. cond t 1 0) e

-- a row of a table that the code reads
module _ (ts : List Contents) (t : ℕ) (x : Contents) (within : t < length ts) (here : x ≡ get_or ts t x) where
  it : get_or ts t no_table ≡ x
  it = get_or_default ts t no_table x within ∙ sym here

  pub row_at : (n : ℕ) (a : Atom) → get_or x.rows n None ≡ Some a → rows_of ts t n ≡ Some a
  row_at n a e = ap (λ (c : Contents). get_or c.rows n None) it ∙ e

  -- an atom is counted in its table
  pub counted_here : (rules : List Rule) (groups : List Group) (a : Atom) → t ≡ table_of_atom groups a
      → IsSetUp rules groups (rows_of ts) (index_columns ts) (length ts)
      → count (contents (grid ts)) a ≡ count_in atom_cmp a (live_atoms x.rows)
  counted_here rules groups a e up =
      count_contents a (grid ts)
      ∙ counted_at (grid ts) t a (λ u n there. up.placed u n a (sym (row_is ts u n) ∙ there) ∙ sym e)
      ∙ ap (λ rows. count_in atom_cmp a (live_atoms rows))
      (get_or-map (λ (c : Contents). c.rows) ts t no_table ∙ ap (λ (c : Contents). c.rows) it)

-- one row is killed
pub only_seat : (P : Seat → Type 0) (s : Seat) → P s → (q : ℕ) → q < 1 → P (seat (s ∷ []) q)
only_seat P s p zero l = p
only_seat P s p (suc q) l = absurd (omega (arith, l))

pub sits_alone : (ts : List Contents) (s : Seat) (a : Atom) → rows_of ts s.table s.row ≡ Some a
    → SitIn (grid ts) (a ∷ []) (s ∷ [])
sits_alone ts s a e = record {
  as_many = refl;
  there = there;
  apart = λ q k l h same. (absurd (omega (arith, l, h)));
}
  where
    there : (q : ℕ) → q < 1 → rows_in (grid ts) (seat (s ∷ []) q).table (seat (s ∷ []) q).row
        ≡ Some (get_or (a ∷ []) q no_atom)
    there zero l = row_is ts s.table s.row ∙ e
    there (suc q) l = absurd (omega (arith, l))

pub left_one : (ts us : List Contents) (s : Seat) (a : Atom) → rows_of ts s.table s.row ≡ Some a → grid us
    ≡ without_rows (grid ts) (s ∷ [])
    → contents (grid us) ⊕ one a ≡ contents (grid ts)
left_one ts us s a e f =
    let w = rows_leave (grid ts) (a ∷ []) (s ∷ []) (sits_alone ts s a e) in
    ap (λ g. contents g ⊕ one a) f ∙ ap (λ t. t ⊕ one a) w.1 ∙ split (contents (grid ts)) (one a) w.0

-- one atom less of two stores together
pub less_at_rest : (s t f : Store) (a : Atom) → t ⊕ one a ≡ s → t ⊕ f ≡ (s ⊕ f) ⊖ one a
less_at_rest s t f a e = same_store _ _ (λ q. (
    let x = ap (λ r. count r q) e in
    let b = count_plus t (one a) q in
    let d = count_plus t f q in
    let g = count_plus s f q in
    let h = count_minus (s ⊕ f) (one a) q in
    omega (arith, x, b, d, g, h)))

pub less_fresh : (s : Store) (fresh : List Atom) (a : Atom) → count s a ≡ 0 → s ⊕ store_of (without atom_cmp a fresh)
    ≡ (s ⊕ store_of fresh) ⊖ one a
less_fresh s fresh a none = same_store _ _ (λ q. (
    let b = count_plus s (store_of (without atom_cmp a fresh)) q in
    let d = count_plus s (store_of fresh) q in
    let g = count-of_list atom_total fresh q in
    let h = count-of_list atom_total (without atom_cmp a fresh) q in
    let m = count_minus (s ⊕ store_of fresh) (one a) q in
    let n = count-of_list atom_total (a ∷ []) q in
    let k = count_in-without atom_cmp atom_total q a fresh in
    elim (few q (eq_by_cmp atom_cmp q a) refl) as (λ _. count (s ⊕ store_of (without atom_cmp a fresh)) q
    ≡ count ((s ⊕ store_of fresh) ⊖ one a) q) [
      | inl here ↦ omega (arith, b, d, g, h, m, n, k, here)
      | inr other ↦ omega (arith, b, d, g, h, m, n, k, other)
    ]))
  where
    few : (q : Atom) (b : Bool) → eq_by_cmp atom_cmp q a ≡ b → (count s q ≡ 0)
        ⊎ (◌≡◌ {A = ℕ} (cond (eq_by_cmp atom_cmp q a) 1 0) 0)
    few q true e = inl (ap (count s) (same_is q a e) ∙ none)
    few q false e = inr (counts_as q a false e)

-- atoms less, one after another
pub less_more : (s : Store) (xs : List Atom) (i : ℕ) (x : Atom) → i < length xs → x ≡ get_or xs i x
    → (s ⊖ store_of (take i xs)) ⊖ one x ≡ s ⊖ store_of (take (i + 1) xs)
less_more s xs i x l e = same_store _ _ (λ q. (
    let a = count_minus (s ⊖ store_of (take i xs)) (one x) q in
    let b = count_minus s (store_of (take i xs)) q in
    let d = count_minus s (store_of (take (i + 1) xs)) q in
    let f = count-of_list atom_total (take i xs) q in
    let g = count-of_list atom_total (take (i + 1) xs) q in
    let h = count-of_list atom_total (x ∷ []) q in
    let m = count_in_more atom_cmp q xs i x l in
    let n : ◌≡◌ {A = ℕ} (cond (eq_by_cmp atom_cmp q x) 1 0) (cond (eq_by_cmp atom_cmp q (get_or xs i x)) 1 0) =
    ap (λ y. let n : ℕ = cond (eq_by_cmp atom_cmp q y) 1 0 in n) e in
    omega (arith, a, b, d, f, g, h, m, n)))

pub less_none : (s : Store) → s ⊖ store_of [] ≡ s
less_none s = same_store _ _ (λ q. (let a = count_minus s (store_of []) q in let b = count-of_list atom_total [] q in
    omega (arith, a, b)))

-- whether all are there is told atom by atom
pub all_within : (s : Store) (xs : List Atom)
    → ((i : ℕ) (d : Atom) → i < length xs → count_in atom_cmp (get_or xs i d) xs ≤ count s (get_or xs i d))
    → IsWithin (store_of xs) s
all_within s xs each q =
    let w = within_each atom_cmp atom_total xs (items s) (λ i d l.
    (let a = each i d l in let e = count-items s (get_or xs i d) in omega (arith, a, e))) q in
    let a = count-of_list atom_total xs q in
    let e = count-items s q in
    omega (arith, w, a, e)

pub too_few : (s : Store) (xs : List Atom) (a : Atom) → ¬ (count_in atom_cmp a xs ≤ count s a)
    → IsWithin (store_of xs) s → ⊥
too_few s xs a few w =
    let k = w a in
    let b = count-of_list atom_total xs a in
    few (omega (arith, k, b))

-- what is fresh counts beside what is at rest
pub counted_both : (s : Store) (fresh : List Atom) (a : Atom)
    → count (s ⊕ store_of fresh) a ≡ count s a + count_in atom_cmp a fresh
counted_both s fresh a =
    let b = count_plus s (store_of fresh) a in let d = count-of_list atom_total fresh a in omega (arith, b, d)
