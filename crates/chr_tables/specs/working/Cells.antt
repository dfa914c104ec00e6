-- Atoms in rows, whose arguments stand in columns.
use Rattle.std.specs.Prelude.{◌≡◌, ℕ, ℤ, zero, suc, ◌<◌, ◌≤◌, pos, true, List, [], ◌∷◌, get_or, slice_get, Some}
use Rattle.chr_base.specs.declared.atom.Atom.{Atom}
use Rattle.chr_base.specs.Values.{is_value}
use Rattle.chr_tables.specs.declared.shape.Shape.{Shape}

-- the value of a row in a column, both counted from 0
abbrev pub cell_value : List (List ℤ) → ℕ → ℕ → ℤ
cell_value columns j row = get_or (get_or columns j []) row (pos 0)

-- n arguments of a row, from the one of number j on
abbrev pub arguments : List (List ℤ) → ℕ → ℕ → ℕ → List ℤ
arguments columns row j zero = []
arguments columns row j (suc n) = cell_value columns j row ∷ arguments columns row (suc j) n

abbrev pub row_atom : List (List ℤ) → ℕ → Shape → Atom
row_atom columns row s = record { symbol = s.symbol; args = record { items = arguments columns row 0 s.arity } }

-- the atoms of rows, the first of which has this number
abbrev pub row_atoms : List (List ℤ) → ℕ → List Shape → List Atom
row_atoms columns row [] = []
row_atoms columns row (s ∷ shapes) = row_atom columns row s ∷ row_atoms columns (suc row) shapes

abbrev pub atoms_of : List (List ℤ) → List Shape → List Atom
atoms_of columns shapes = row_atoms columns 0 shapes

-- each value is one of 64 bits
abbrev pub HoldsValues : List ℤ → Type 0
HoldsValues values = (row : ℕ) → is_value (get_or values row (pos 0)) ≡ true

-- no row from the one place up to the other has this value
abbrev pub NoneIs : List ℤ → ℤ → ℕ → ℕ → Type 0
NoneIs values value from to = (row : ℕ) → from ≤ row → row < to → ¬ (get_or values row (pos 0) ≡ value)

-- no atom of a row from the one place up to the other has the value as its argument in this column
abbrev pub NoneHasArgument : List Atom → ℕ → ℤ → ℕ → ℕ → Type 0
NoneHasArgument atoms column value from to =
    (row : ℕ) (a : Atom) → from ≤ row → row < to → get_or atoms row a ≡ a
    → ¬ (slice_get a.args.items column ≡ Some value)
