-- The atoms in tables, and fresh atoms, as one list.
use Rattle.std.specs.Prelude.{List, [], ◌∷◌, ◌++◌, map, Option, Some}
use Rattle.std.specs.List.{flat_map}
use Rattle.chr_base.specs.declared.atom.Atom.{Atom}
use Rattle.chr_base.specs.FinBag.{◌⊕◌}
use Rattle.chr_base.specs.Stores.{Store, store_of}
use Rattle.chr_tables.specs.Contents.{Contents}
use Rattle.chr_plans.specs.Grids.{live_atoms, contents}
use Rattle.chr_columns.specs.working.Resting.{grid}

-- the atoms that live in the tables, table by table
abbrev pub live_in : List Contents → List Atom
live_in tables = flat_map (λ t. live_atoms t.rows) tables

-- the rows of one table after another, and then a row for each fresh atom
abbrev pub rows_in_turn : List Contents → List Atom → List (Option Atom)
rows_in_turn [] fresh = map (λ a. Some a) fresh
rows_in_turn (t ∷ tables) fresh = t.rows ++ rows_in_turn tables fresh

-- the store of the atoms in the tables and of the fresh ones
abbrev pub all_of : List Contents → List Atom → Store
all_of tables fresh = contents (grid tables) ⊕ store_of fresh
