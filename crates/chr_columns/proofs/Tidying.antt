-- Live rows of a table that move together.
use Rattle.std.proofs.Common.{◌≡◌, ℕ, zero, suc, ◌<◌, List, [], ◌∷◌, length, get_or, set, Option, refl, sym, ap, subst}
use Rattle.std.proofs.Common.{◌∙◌}
use Rattle.std.specs.Prelude.{Some, None, filter, is_some}
use Rattle.std.proofs.Math.ListN.{get_or-map}
use Rattle.std.proofs.lemmas.List.{length-set, get_or_default}
use Rattle.chr_base.specs.declared.atom.Atom.{Atom}
use Rattle.chr_base.specs.declared.rule.Rule.{Rule}
use Rattle.chr_base.specs.FinBag.{◌⊕◌}
use Rattle.chr_base.specs.Stores.{store_of}
use Rattle.chr_tables.specs.Contents.{Contents, no_table, rows_of, index_columns}
use Rattle.chr_plans.specs.Grids.{Grid, contents, live_atoms, rows_in}
use Rattle.chr_columns.specs.declared.groups.Group.{Group}
use Rattle.chr_columns.specs.working.Resting.{grid, IsSetUp, ArePlanned}
use Rattle.chr_columns.proofs.Stored.{row_is, grid_set, keys_set, same_columns}

pub live_filter : (rows : List (Option Atom)) → live_atoms (filter is_some rows) ≡ live_atoms rows
live_filter [] = refl
live_filter (None ∷ rows) = live_filter rows
live_filter (Some a ∷ rows) = ap (λ as'. a ∷ as') (live_filter rows)

-- the atom of a row was that of some row before
filter_row : (rows : List (Option Atom)) (n : ℕ) (b : Atom) → get_or (filter is_some rows) n None ≡ Some b → (m : ℕ)
    × (get_or rows m None ≡ Some b)
filter_row [] n b e = absurd (let f : ◌≡◌ {A = Option Atom} None (Some b) = e in cc)
filter_row (None ∷ rows) n b e = let w = filter_row rows n b e in (suc w.0, w.1)
filter_row (Some a ∷ rows) zero b e = (zero, e)
filter_row (Some a ∷ rows) (suc n) b e = let w = filter_row rows n b e in (suc w.0, w.1)

contents_set : (g : Grid) (t : ℕ) (rows : List (Option Atom)) → live_atoms rows ≡ live_atoms (get_or g t [])
    → contents (set g t rows) ≡ contents g
contents_set [] t rows e = refl
contents_set (old ∷ g) zero rows e = ap (λ as'. store_of as' ⊕ contents g) e
contents_set (old ∷ g) (suc t) rows e = ap (λ s. store_of (live_atoms old) ⊕ s) (contents_set g t rows e)

row_before : (g : Grid) (t t' n : ℕ) (b : Atom) → rows_in (set g t (filter is_some (get_or g t []))) t' n ≡ Some b
    → (m : ℕ) × (rows_in g t' m ≡ Some b)
row_before [] t t' n b e = (n, e)
row_before (rows ∷ g) zero zero n b e = filter_row rows n b e
row_before (rows ∷ g) zero (suc t') n b e = (n, e)
row_before (rows ∷ g) (suc t) zero n b e = (n, e)
row_before (rows ∷ g) (suc t) (suc t') n b e = row_before g t t' n b e

module _ (ts : List Contents) (t : ℕ) (x y : Contents) (within : t < length ts) (here : x ≡ get_or ts t x)
    (rows : y.rows ≡ filter is_some x.rows) (keys : y.keys ≡ x.keys) where
  it : x ≡ get_or ts t no_table
  it = here ∙ get_or_default ts t x no_table within

  grid_tidy : grid (set ts t y) ≡ set (grid ts) t (filter is_some (get_or (grid ts) t []))
  grid_tidy =
      grid_set ts t y
      ∙ ap (set (grid ts) t) (rows ∙ ap (λ (c : Contents). filter is_some c.rows) it
      ∙ ap (filter is_some) (sym (get_or-map (λ (c : Contents). c.rows) ts t no_table)))

  pub stored_tidy : contents (grid (set ts t y)) ≡ contents (grid ts)
  stored_tidy = ap contents grid_tidy ∙ contents_set (grid ts) t (filter is_some (get_or (grid ts) t []))
      (live_filter (get_or (grid ts) t []))

  pub set_up_tidy : (rules : List Rule) (groups : List Group) → IsSetUp rules groups (rows_of ts) (index_columns ts)
      (length ts)
      → IsSetUp rules groups (rows_of (set ts t y)) (index_columns (set ts t y)) (length (set ts t y))
  set_up_tidy rules groups up =
      let same = same_columns (set ts t y) ts (keys_set ts t y (keys ∙ ap (λ (c : Contents). c.keys) it)) in
      record {
        tables = length-set ts t y ∙ up.tables;
        few = up.few;
        placed = λ t' n b h. (let w = row_before (grid ts) t t' n b
            (ap (λ (g : Grid). rows_in g t' n) (sym grid_tidy) ∙ row_is (set ts t y) t' n ∙ h) in
            up.placed t' w.0 b (sym (row_is ts t' w.0) ∙ w.1));
        plans = subst (ArePlanned rules groups) (sym same) up.plans;
        covered = up.covered;
      }
