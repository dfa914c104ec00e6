-- Texts of JSON without escapes, and arrays as far as they are read.
use Rattle.std.specs.Prelude.{◌≡◌, ℕ, ℤ, Bool, List, [], ◌∷◌, ◌++◌, ◌&&◌, nat_le, not, ◌==◌, flat_map, map}
use Rattle.serde_json.specs.Data.{Data, null, boolean, number, string, array, object, Items, no_items, item}
use Rattle.serde_json.specs.Written.{compact_text}
use Rattle.chr_json.specs.declared.comma.Comma.{Comma}
use Rattle.chr_json.specs.declared.comma.Comma.TheVariants as comma
use Rattle.chr_json.specs.Commands.{Said}
use Rattle.chr_json.specs.NamedAtoms.{NamedAtom}
use Rattle.chr_json.specs.Printed.{argument_data, atom_data}
use Rattle.chr_json.specs.WrittenCommands.{command_data}

-- the byte stands for itself: no control byte, no quotation mark, no backslash
abbrev pub is_bare : ℕ → Bool
is_bare b = nat_le 32 b && not (b == 34) && not (b == 92)

-- what stands between the elements of an array
abbrev pub comma_text : Comma → List ℕ
comma_text comma.Bare = 44 ∷ []
comma_text comma.Spaced = 44 ∷ 32 ∷ []

-- the text of a value in which this stands between the elements of arrays
abbrev mutual
  pub parted_text : List ℕ → Data → List ℕ
  parted_text c null = compact_text null
  parted_text c (boolean b) = compact_text (boolean b)
  parted_text c (number n) = compact_text (number n)
  parted_text c (string s) = compact_text (string s)
  parted_text c (array ds) = 91 ∷ parted_items c [] ds
  parted_text c (object ms) = compact_text (object ms)

  -- the first element after these bytes, with the closing bracket
  pub parted_items : List ℕ → List ℕ → Items → List ℕ
  parted_items c front no_items = 93 ∷ []
  parted_items c front (item d ds) = front ++ (parted_text c d ++ parted_items c c ds)

-- the line is the command's value, without spaces or with one after each comma
abbrev pub IsTextOf : List ℕ → Said → Type 0
IsTextOf line s = (k : Comma) × (line ≡ parted_text (comma_text k) (command_data s))

-- elements, each after a comma
abbrev pub later_text : List ℕ → List Data → List ℕ
later_text c = flat_map (λ d. c ++ parted_text c d)

-- arguments, each after a comma
abbrev pub arguments_later : List ℕ → List ℤ → List ℕ
arguments_later c zs = later_text c (map argument_data zs)

-- atoms, each after a comma
abbrev pub atoms_later : List ℕ → List NamedAtom → List ℕ
atoms_later c ws = later_text c (map atom_data ws)
