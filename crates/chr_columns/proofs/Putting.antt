-- An atom that joins the tables.
use Rattle.std.proofs.Common.{◌≡◌, ℕ, ◌<◌, List, [], ◌∷◌, ◌++◌, length, get_or, set, sym, ap, subst, ◌∙◌, arith, inl}
use Rattle.std.proofs.Common.{inr}
use Rattle.std.specs.Prelude.{Some}
use Rattle.std.proofs.Math.ListN.{get_or-map}
use Rattle.std.proofs.lemmas.List.{length-map, length-set, get_or_default, set-get_or}
use Rattle.chr_base.specs.declared.atom.Atom.{Atom}
use Rattle.chr_base.specs.declared.rule.Rule.{Rule}
use Rattle.chr_base.specs.FinBag.{◌⊕◌}
use Rattle.chr_tables.specs.Contents.{Contents, no_table, rows_of, index_columns}
use Rattle.chr_plans.specs.Actives.{one}
use Rattle.chr_plans.specs.Grids.{Grid, contents, rows_in}
use Rattle.chr_columns.specs.declared.groups.Group.{Group}
use Rattle.chr_columns.specs.working.Groups.{table_of_atom}
use Rattle.chr_columns.specs.working.Resting.{grid, IsSetUp, ArePlanned}
use Rattle.chr_columns.proofs.Finding.{table_of_most}
use Rattle.chr_columns.proofs.Stored.{row_is, grid_set, keys_set, same_columns, contents_more, row_more}

-- the table of each atom is there
pub has_table : (rules : List Rule) (groups : List Group) (ts : List Contents) (a : Atom)
    → IsSetUp rules groups (rows_of ts) (index_columns ts) (length ts) → table_of_atom groups a < length ts
has_table rules groups ts a up = let m = table_of_most groups a.symbol (length a.args.items) in let n = up.tables in
    omega (arith, m, n)

module _ (ts : List Contents) (t : ℕ) (x y : Contents) (a : Atom) (within : t < length ts) (here : x ≡ get_or ts t x)
    (rows : y.rows ≡ x.rows ++ Some a ∷ []) (keys : y.keys ≡ x.keys) where
  it : x ≡ get_or ts t no_table
  it = here ∙ get_or_default ts t x no_table within

  grid_put : grid (set ts t y) ≡ set (grid ts) t (get_or (grid ts) t [] ++ Some a ∷ [])
  grid_put =
      grid_set ts t y
      ∙ ap (set (grid ts) t) (rows ∙ ap (λ (c : Contents). c.rows ++ Some a ∷ []) it
      ∙ ap (λ rs. rs ++ Some a ∷ []) (sym (get_or-map (λ (c : Contents). c.rows) ts t no_table)))

  pub stored_put : contents (grid (set ts t y)) ≡ contents (grid ts) ⊕ one a
  stored_put = ap contents grid_put ∙ contents_more (grid ts) t a (let n = length-map ts (λ (c : Contents). c.rows) in
      omega (arith, n, within))

  pub set_up_put : (rules : List Rule) (groups : List Group) → t ≡ table_of_atom groups a
      → IsSetUp rules groups (rows_of ts) (index_columns ts) (length ts)
      → IsSetUp rules groups (rows_of (set ts t y)) (index_columns (set ts t y)) (length (set ts t y))
  set_up_put rules groups e up =
      let same = same_columns (set ts t y) ts (keys_set ts t y (keys ∙ ap (λ (c : Contents). c.keys) it)) in
      record {
        tables = length-set ts t y ∙ up.tables;
        few = up.few;
        placed = λ t' n b h. (elim (row_more (grid ts) t t' n a b
            (ap (λ (g : Grid). rows_in g t' n) (sym grid_put) ∙ row_is (set ts t y) t' n ∙ h)) as (λ _. t'
            ≡ table_of_atom groups b) [
              | inl old ↦ up.placed t' n b (sym (row_is ts t' n) ∙ old)
              | inr new ↦ new.0 ∙ e ∙ ap (table_of_atom groups) new.1
            ]);
        plans = subst (ArePlanned rules groups) (sym same) up.plans;
        covered = up.covered;
      }

-- a table that did not change is put back
pub set_same : (ts : List Contents) (t : ℕ) (x y : Contents) → t < length ts → x ≡ get_or ts t x → y.rows ≡ x.rows
    → y.keys ≡ x.keys → y.orders ≡ x.orders → set ts t y ≡ ts
set_same ts t x y l here e f g =
    let same : y ≡ x = (λ i. record { rows = e i; keys = f i; orders = g i }) in
    ap (set ts t) (same ∙ here ∙ get_or_default ts t x no_table l) ∙ set-get_or ts t no_table
