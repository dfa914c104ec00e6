-- Atoms that are printed one after another, and their text.
use Rattle.std.specs.Prelude.{◌≡◌, ℕ, ℤ, ◌-◌, ◌<◌, min, Bool, true, false, ◌&&◌, List, [], ◌∷◌, ◌++◌, length, map, take}
use Rattle.std.specs.Prelude.{nat_eq, IsTrue, Option, Some, slice_get, string_bytes, ⊤}
use Rattle.std.specs.Borrow.{Bor}
use Rattle.std.specs.List.{All, flat_map}
use Rattle.chr_base.specs.declared.atom.Atom.{Atom}
use Rattle.chr_base.specs.FinBag.{is_rising}
use Rattle.chr_base.specs.ProgramTests.{Declaration}
use Rattle.chr_base.specs.Texts.{print_cmp, atoms_text}
use Rattle.chr_plans.specs.Grids.{live_atoms}
use Rattle.chr_tables.specs.Contents.{Contents}
use Rattle.chr_printing.specs.declared.flat.Flat.{Flat}
use Rattle.chr_printing.specs.declared.flat.TheConstants.{FLAT_ARITY}
use Rattle.chr_printing.specs.declared.turns.Source.{Source}
use Rattle.chr_printing.specs.declared.turns.Source.TheVariants as source
use Rattle.chr_printing.specs.declared.turns.Turn.{Turn}

-- the atom of a row
abbrev pub flat_atom : Flat → List ℤ → Atom
flat_atom f row = record { symbol = f.symbol; args = record { items = take (min f.arity FLAT_ARITY) row } }

abbrev pub flat_atoms : Flat → List Atom
flat_atoms f = map (flat_atom f) f.rows.items

abbrev pub flat_rows : Flat → List (Option Atom)
flat_rows f = map (λ row. Some (flat_atom f row)) f.rows.items

-- the atom has the symbol and the number of arguments of the rows
abbrev pub has_shape : Flat → Atom → Bool
has_shape f a = nat_eq f.symbol.0 a.symbol.0 && nat_eq f.arity (length a.args.items)

abbrev pub flats_atoms : List Flat → List Atom
flats_atoms fs = flat_map flat_atoms fs

-- the rows of a source, and its atoms
abbrev pub turn_rows : Source → List (Option Atom)
turn_rows (source.Table t) = t.now.rows
turn_rows (source.Flat f) = flat_rows f.now
turn_rows (source.Written f) = flat_rows f.now

abbrev pub turn_atoms : Turn → List Atom
turn_atoms t = live_atoms (turn_rows t.source)

abbrev pub all_atoms : List Turn → List Atom
all_atoms ts = flat_map turn_atoms ts

abbrev pub rows_at : Bor Contents → List (Option Atom)
rows_at t = t.now.rows

-- atoms in the order in which they are printed, and the last of them, if there is one
pub record Rises (ds : List Declaration) (atoms : List Atom) (last : Option Atom) : Type 0 where
  pub rises : IsTrue (is_rising (print_cmp ds) atoms)
  pub last_is : last ≡ slice_get atoms (length atoms - 1)

-- atoms, joined, and nothing where there is none
abbrev pub joined_text : List Declaration → List Atom → List ℕ
joined_text ds [] = []
joined_text ds (a ∷ as') = atoms_text ds (a ∷ as')

-- atoms have been written behind a text, and whether there are some
pub record IsWritten (ds : List Declaration) (start : List ℕ) (atoms : List Atom) (started : Bool) (text : List ℕ)
    : Type 0 where
  pub text_is : text ≡ start ++ joined_text ds atoms
  pub some : started ≡ true → 0 < length atoms
  pub none : started ≡ false → atoms ≡ []

-- the atoms are in the order in which they are printed, and the text is theirs
pub record IsWrittenOut (ds : List Declaration) (f : Flat) : Type 0 where
  pub rises : IsTrue (is_rising (print_cmp ds) (flat_atoms f))
  pub text : string_bytes f.text ≡ joined_text ds (flat_atoms f)

-- atoms that are said to be written out are
abbrev pub Fits : List Declaration → Source → Type 0
Fits ds (source.Table t) = ⊤
Fits ds (source.Flat f) = ⊤
Fits ds (source.Written f) = IsWrittenOut ds f.now

abbrev pub Fit : List Declaration → List Turn → Type 0
Fit ds turns = All (λ t. Fits ds t.source) turns
