-- Atoms and ids over JSON values, by their shape alone.
use Rattle.std.specs.Prelude.{ℕ, ℤ, List, [], ◌∷◌, length, ◌≤◌, nat_le, ◌&&◌, if◌then◌else◌, Option, None, option_map}
use Rattle.std.specs.Prelude.{option_and_then}
use Rattle.serde_json.specs.Data.{Data}
use Rattle.serde_json.specs.Find.{as_str}
use Rattle.chr_base.specs.declared.limits.TheConstants.{MAX_OPERATION}
use Rattle.chr_base.specs.Traversals.{each}
use Rattle.chr_json.specs.Values.{elements, natural_of, integer_of, origin_of}

-- an atom: a name and its arguments
pub record NamedAtom : Type 0 where
  pub name : List ℕ
  pub args : List ℤ

-- an array of a name and whole numbers
abbrev pub named_atom_from : List Data → Option NamedAtom
named_atom_from [] = None
named_atom_from (d ∷ ds) =
    option_and_then (λ name. option_map (λ zs. record { name = name; args = zs }) (each integer_of ds)) (as_str d)

abbrev pub named_atom_of : Data → Option NamedAtom
named_atom_of d = option_and_then named_atom_from (elements d)

-- an operation has at least one atom, and no more than it may have
abbrev pub IsOperationLength : ℕ → Type 0
IsOperationLength n = (1 ≤ n) × (n ≤ MAX_OPERATION)

-- an array of as many atoms as an operation has
abbrev pub named_atoms_from : List Data → Option (List NamedAtom)
named_atoms_from ds =
    if nat_le 1 (length ds) && nat_le (length ds) MAX_OPERATION then each named_atom_of ds else None

abbrev pub named_atoms_of : Data → Option (List NamedAtom)
named_atoms_of d = option_and_then named_atoms_from (elements d)

-- an array of an origin and a number
abbrev pub id_from : List Data → Option (ℕ × ℕ)
id_from [] = None
id_from (o ∷ []) = None
id_from (o ∷ n ∷ []) = option_and_then (λ x. option_map (λ y. (x, y)) (natural_of n)) (origin_of o)
id_from (o ∷ n ∷ d ∷ ds) = None

abbrev pub id_of : Data → Option (ℕ × ℕ)
id_of d = option_and_then id_from (elements d)
