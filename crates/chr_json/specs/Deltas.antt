-- Operations and deltas over JSON values, by their shape alone.
use Rattle.std.specs.Prelude.{ℕ, List, [], ◌∷◌, Bool, false, ◌==◌, if◌then◌else◌, Option, None, is_some, option_map}
use Rattle.std.specs.Prelude.{option_and_then}
use Rattle.std.specs.Option.{option_map_or}
use Rattle.serde_json.specs.Data.{Data}
use Rattle.serde_json.specs.Find.{as_number}
use Rattle.chr_base.specs.Traversals.{each}
use Rattle.chr_ops.specs.declared.id.OpId.{OpId}
use Rattle.chr_json.specs.Values.{elements, joined, natural_of, origin_of}
use Rattle.chr_json.specs.NamedAtoms.{NamedAtom, id_of, named_atoms_of}

-- an operation: its id, and its atoms in some order
pub record NamedOperation : Type 0 where
  pub id : OpId
  pub atoms : List NamedAtom

abbrev pub named_operation : ℕ → ℕ → List NamedAtom → NamedOperation
named_operation o n ws = record { id = record { origin = o; number = n }; atoms = ws }

-- an id and an array of atoms
abbrev pub operation_with : Data → Data → Option NamedOperation
operation_with id atoms =
    option_and_then (λ p. option_map (named_operation p.0 p.1) (named_atoms_of atoms)) (id_of id)

-- the operation of an array of an id and an array of atoms
abbrev pub operation_from : List Data → Option NamedOperation
operation_from [] = None
operation_from (id ∷ []) = None
operation_from (id ∷ atoms ∷ []) = operation_with id atoms
operation_from (id ∷ atoms ∷ d ∷ ds) = None

abbrev pub operation_of : Data → Option NamedOperation
operation_of d = option_and_then operation_from (elements d)

-- an operation of an origin: an array of its number there and atoms
abbrev pub numbered_from : ℕ → List Data → Option NamedOperation
numbered_from o [] = None
numbered_from o (n ∷ []) = None
numbered_from o (n ∷ atoms ∷ []) =
    option_and_then (λ number. option_map (named_operation o number) (named_atoms_of atoms)) (natural_of n)
numbered_from o (n ∷ atoms ∷ d ∷ ds) = None

abbrev pub numbered_of : ℕ → Data → Option NamedOperation
numbered_of o d = option_and_then (numbered_from o) (elements d)

-- an array of operations of an origin
abbrev pub all_numbered_of : ℕ → Data → Option (List NamedOperation)
all_numbered_of o d = option_and_then (each (numbered_of o)) (elements d)

-- a group: an array of an origin and its operations
abbrev pub group_from : List Data → Option (List NamedOperation)
group_from [] = None
group_from (o ∷ []) = None
group_from (o ∷ ops ∷ []) = option_and_then (λ origin. all_numbered_of origin ops) (origin_of o)
group_from (o ∷ ops ∷ d ∷ ds) = None

abbrev pub group_of : Data → Option (List NamedOperation)
group_of d = option_and_then group_from (elements d)

-- an array of groups: all their operations, in the order in which they stand there
abbrev pub groups_of : Data → Option (List NamedOperation)
groups_of d = option_and_then (joined group_of) (elements d)

-- whether the value is this whole number
abbrev pub is_natural : ℕ → Data → Bool
is_natural n d = option_map_or (λ m. m == n) (natural_of d) false

-- whether the first element is a number, of any kind
abbrev pub begins_with_number : List Data → Bool
begins_with_number [] = false
begins_with_number (d ∷ ds) = is_some (as_number d)

-- version 2: the number 2, and an array of groups
abbrev pub delta_2_from : List Data → Option (List NamedOperation)
delta_2_from [] = None
delta_2_from (v ∷ []) = None
delta_2_from (v ∷ gs ∷ []) = if is_natural 2 v then groups_of gs else None
delta_2_from (v ∷ gs ∷ d ∷ ds) = None

-- What begins with a number is read as version 2. All else is version 1: an array of operations.
abbrev pub delta_from : List Data → Option (List NamedOperation)
delta_from ds = if begins_with_number ds then delta_2_from ds else each operation_of ds

abbrev pub delta_of : Data → Option (List NamedOperation)
delta_of d = option_and_then delta_from (elements d)
