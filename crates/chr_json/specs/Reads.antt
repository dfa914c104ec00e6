-- What a line says or why it is refused, and what the reader's answers mean.
use Rattle.std.specs.Prelude.{◌≡◌, ℕ, ◌≤◌, List, All, map, if◌then◌else◌, Option, Some, None, Result, Ok, Err, vec_len}
use Rattle.std.specs.Prelude.{⊤}
use Rattle.std.specs.Cow.{cow_str_bytes}
use Rattle.std.specs.Option.{ok_or}
use Rattle.serde_json.specs.Data.{Data}
use Rattle.chr_json.specs.declared.fault.LineFault.{LineFault}
use Rattle.chr_json.specs.declared.fault.LineFault.TheVariants as fault
use Rattle.chr_json.specs.declared.atom.RawAtom.{RawAtom}
use Rattle.chr_json.specs.declared.operation.RawOp.{RawOp}
use Rattle.chr_json.specs.declared.command.Command.{Command}
use Rattle.chr_json.specs.declared.command.Command.TheVariants as command
use Rattle.chr_json.specs.Values.{json_in}
use Rattle.chr_json.specs.NamedAtoms.{IsOperationLength, NamedAtom}
use Rattle.chr_json.specs.Commands.{Said, show, tell, sync, summary, lacks, merge, command_of}
use Rattle.chr_ops.specs.declared.range.IdRange.{IdRange}
use Rattle.chr_json.specs.Deltas.{NamedOperation}
use Rattle.chr_json.specs.Lines.{has_line_length}

-- what an atom of the code stands for
abbrev pub raw_atom_view : RawAtom → NamedAtom
raw_atom_view a = record { name = cow_str_bytes a.name; args = a.args.items }

-- what an operation of the code stands for
abbrev pub raw_op_view : RawOp → NamedOperation
raw_op_view o = record { id = o.id; atoms = map raw_atom_view o.atoms.items }

-- the operation has as many atoms as an operation may have
abbrev pub IsSizedOperation : RawOp → Type 0
IsSizedOperation o = IsOperationLength (vec_len o.atoms)

-- what a command of the code stands for
abbrev pub command_view : Command → Said
command_view (command.Tell r o n atoms) = tell r o n (map raw_atom_view atoms.items)
command_view (command.Show r) = show r
command_view (command.Sync a b) = sync a b
command_view (command.Summary r) = summary r
command_view (command.Lacks r ranges v) = lacks r ranges.items v
command_view (command.Merge r operations) = merge r (map raw_op_view operations.items)

-- there is an id in the range
abbrev pub HasIds : IdRange → Type 0
HasIds r = r.lo ≤ r.hi

-- an operation that is told or merged has as many atoms as an operation may have, and a range has an id
abbrev pub IsSized : Command → Type 0
IsSized (command.Tell r o n atoms) = IsOperationLength (vec_len atoms)
IsSized (command.Lacks r ranges v) = All HasIds ranges.items
IsSized (command.Merge r operations) = All IsSizedOperation operations.items
IsSized (command.Show r) = ⊤
IsSized (command.Sync a b) = ⊤
IsSized (command.Summary r) = ⊤

-- a value's command, or that it is none, or that the bytes are no value
abbrev pub value_said : Option Data → Result Said LineFault
value_said (Some d) = ok_or (command_of d) fault.Shape
value_said None = Err fault.BadLine

-- a line's command, or the first cause for which it is refused
abbrev pub line_said : List ℕ → Result Said LineFault
line_said line = if has_line_length line then value_said (json_in line) else Err fault.BadLine

-- a refusal for want of memory says nothing, and every other is the line's own
abbrev pub FailsLine : LineFault → Result Said LineFault → Type 0
FailsLine fault.Memory said = ⊤
FailsLine fault.BadLine said = said ≡ Err fault.BadLine
FailsLine fault.Shape said = said ≡ Err fault.Shape

-- the answer of the code is what the line says
abbrev pub GivesLine : Result Command LineFault → Result Said LineFault → Type 0
GivesLine (Ok c) said = said ≡ Ok (command_view c)
GivesLine (Err e) said = FailsLine e said
