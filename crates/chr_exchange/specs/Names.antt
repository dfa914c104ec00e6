-- Operations of a program's atoms, by the names that it declares.
use Rattle.std.specs.Prelude.{List, Option, option_map}
use Rattle.chr_base.specs.declared.atom.Atom.{Atom}
use Rattle.chr_base.specs.ProgramTests.{Declaration}
use Rattle.chr_base.specs.Programs.{declared_atom}
use Rattle.chr_base.specs.Stores.{store_of}
use Rattle.chr_base.specs.Traversals.{each}
use Rattle.chr_json.specs.NamedAtoms.{NamedAtom}
use Rattle.chr_json.specs.Deltas.{NamedOperation}
use Rattle.chr_ops.specs.Operations.{Operation}

abbrev pub named_atom : List Declaration → NamedAtom → Option Atom
named_atom ds w = declared_atom ds w.name w.args

-- the atoms of these names and arguments, where the program declares each
abbrev pub named_atoms : List Declaration → List NamedAtom → Option (List Atom)
named_atoms ds ws = each (named_atom ds) ws

-- the operation that is spelt, where the program declares its atoms
abbrev pub declared_operation : List Declaration → NamedOperation → Option Operation
declared_operation ds o = option_map (λ atoms. (o.id, store_of atoms)) (named_atoms ds o.atoms)

-- the operations that are spelt, where the program declares the atoms of each
abbrev pub declared_operations : List Declaration → List NamedOperation → Option (List Operation)
declared_operations ds os = each (declared_operation ds) os
