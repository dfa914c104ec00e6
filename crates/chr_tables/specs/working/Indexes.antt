-- What a table keeps: flags of the rows that live, and indexes.
use Rattle.std.specs.Prelude.{◌≡◌, ℕ, ◌<◌, ◌^◌, List, [], ◌∷◌, length, map, get_or, cond, Bool, Option, Some, None}
use Rattle.std.specs.Prelude.{option_map, suc, true, false}
use Rattle.std.specs.Coded.{Coded, code_by, coded×, coded_ℕ, coded_list, coded_option}
use Rattle.std.proofs.Common.{refl}
use Rattle.chr_base.specs.declared.atom.Atom.{Atom}
use Rattle.chr_base.specs.working.Codes.{coded_atom}
use Rattle.chr_plans.specs.Keys.{key_of}
use Rattle.chr_tables.specs.Hashes.{key_hash}
use Rattle.chr_tables.specs.working.Finders.{Found, order_in, finder_rows, room_in}
use Rattle.chr_tables.specs.declared.indexes.Keyed.{Keyed}
use Rattle.chr_tables.specs.Contents.{Contents}

-- for each row its atom, or None where the row is dead
abbrev pub live : List Atom → List Bool → List (Option Atom)
live [] bs = []
live (a ∷ as') [] = []
live (a ∷ as') (b ∷ bs) = cond b (Some a) None ∷ live as' bs

-- the atoms of the rows that live, in their order
abbrev pub chosen : List Atom → List Bool → List Atom
chosen [] bs = []
chosen (a ∷ as') [] = []
chosen (a ∷ as') (b ∷ bs) = cond b (a ∷ chosen as' bs) (chosen as' bs)

-- how many of the rows with these flags are dead
abbrev pub dead_in : List Bool → ℕ
dead_in [] = 0
dead_in (true ∷ bs) = dead_in bs
dead_in (false ∷ bs) = suc (dead_in bs)

-- the seed and the columns under which an index finds rows, and the columns of its order, by whose values it leaves
-- rows out
pub record Way : Type 0 where
  pub seed : ℕ
  pub columns : List ℕ
  pub order : List ℕ

-- what is read past the last index
abbrev pub no_way : Way
no_way = record { seed = 0; columns = []; order = [] }

-- what an index of this way has of an atom, and of a row, or None where the row is dead
abbrev pub atom_entry : Way → Atom → Found
atom_entry way a = record { hash = key_hash way.seed (key_of way.columns a); values = key_of way.order a }

abbrev pub entry_in : Way → Option Atom → Option Found
entry_in way row = option_map (atom_entry way) row

abbrev pub way_of : Keyed → Way
way_of k = record { seed = k.seed; columns = k.columns.items; order = order_in k.index }

-- what each index has of its rows
abbrev pub keyed_entries : List Keyed → List (List (Option Found))
keyed_entries ks = map (λ k. finder_rows k.index) ks

abbrev pub ways_of : List Keyed → List Way
ways_of ks = map way_of ks

abbrev pub key_columns : List Keyed → List (List ℕ)
key_columns ks = map (λ w. w.columns) (ways_of ks)

abbrev pub orders_of : List Keyed → List (List ℕ)
orders_of ks = map (λ w. w.order) (ways_of ks)

abbrev pub rooms_of : List Keyed → List ℕ
rooms_of ks = map (λ k. room_in k.index) ks

-- each index has each row
abbrev pub AreIndexed : List (Option Atom) → List Way → List (List (Option Found)) → Type 0
AreIndexed rows ways entries =
    (j : ℕ) → j < length ways → get_or entries j [] ≡ map (entry_in (get_or ways j no_way)) rows

-- what every table keeps
pub record IsTable (atoms : List Atom) (alive : List Bool) (dead : ℕ) (indexes : List Keyed) : Type 0 where
  pub as_alive : length alive ≡ length atoms
  pub counted : dead ≡ dead_in alive
  pub few : length atoms < 2 ^ 32
  pub indexed : AreIndexed (live atoms alive) (ways_of indexes) (keyed_entries indexes)

abbrev pub contents_code : Coded Contents
contents_code =
    code_by (List (Option Atom) × (List (List ℕ) × List (List ℕ)))
    (coded× (coded_list (coded_option coded_atom))
    (coded× (coded_list (coded_list coded_ℕ)) (coded_list (coded_list coded_ℕ))))
    (λ c. (c.rows, (c.keys, c.orders))) (λ p. record { rows = p.0; keys = p.1.0; orders = p.1.1 }) (λ _. refl)
