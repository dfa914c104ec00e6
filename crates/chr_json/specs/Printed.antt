-- Atoms and ids as JSON values.
use Rattle.std.specs.Prelude.{ℕ, ℤ, List, [], ◌∷◌, map, FitsSigned}
use Rattle.std.specs.Int.{w64}
use Rattle.std.specs.List.{AllByRecursion}
use Rattle.serde_json.specs.Data.{Data, unsigned, string, number, array}
use Rattle.serde_json.specs.Find.{of_integer}
use Rattle.serde_json.specs.View.{items_of}
use Rattle.chr_json.specs.NamedAtoms.{NamedAtom}

abbrev pub natural_data : ℕ → Data
natural_data n = number (unsigned n)

abbrev pub argument_data : ℤ → Data
argument_data z = number (of_integer z)

abbrev pub atom_data : NamedAtom → Data
atom_data w = array (items_of (string w.name ∷ map argument_data w.args))

abbrev pub atoms_data : List NamedAtom → Data
atoms_data ws = array (items_of (map atom_data ws))

abbrev pub id_data : ℕ → ℕ → Data
id_data o n = array (items_of (natural_data o ∷ natural_data n ∷ []))

-- each argument has 64 bits
abbrev pub ArgumentsFit : NamedAtom → Type 0
ArgumentsFit w = AllByRecursion (FitsSigned w64) w.args
