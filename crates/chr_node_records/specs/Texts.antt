-- The texts of records, and the operations that they have.
use Rattle.std.specs.Prelude.{◌≡◌, ℕ, List, [], ◌∷◌, drop, if◌then◌else◌, Result, Ok, Err}
use Rattle.std.specs.Str.{bytes_eq}
use Rattle.chr_base.specs.declared.program.Program.{Program}
use Rattle.chr_base.specs.ProgramTests.{Declaration}
use Rattle.chr_base.specs.Programs.{declarations}
use Rattle.chr_ops.specs.Operations.{Operation, operations_of}
use Rattle.chr_exchange.specs.declared.fault.MessageFault.{MessageFault}
use Rattle.chr_exchange.specs.Meant.{delta_in}
use Rattle.chr_exchange.specs.ReadBack.{IsDeclaredOperation}
use Rattle.chr_exchange.specs.Texts.{delta_text}
use Rattle.chr_records.specs.Records.{IsText}
use Rattle.chr_records.specs.Checksums.{text_of}

-- the operations that were read, and none of what was refused
abbrev pub or_none : Result (List Operation) MessageFault → List Operation
or_none (Ok os) = os
or_none (Err e) = []

-- the message of a record's text: what stands behind the nine bytes of a checksum
abbrev pub behind_checksum : List ℕ → List ℕ
behind_checksum text = drop 9 text

-- the operations of a record's text: those of a delta of the program's atoms, behind its checksum
unfoldable pub operations_in : List Declaration → List ℕ → List Operation
operations_in ds text =
    let message = behind_checksum text in
    if bytes_eq text (text_of message) then or_none (delta_in ds message) else []

-- the message of an operation: the text of the delta that has it alone
abbrev pub operation_message : List Declaration → Operation → List ℕ
operation_message ds o = delta_text ds (operations_of (o ∷ []))

-- the text of the record of an operation
unfoldable pub operation_text : List Declaration → Operation → List ℕ
operation_text ds o = text_of (operation_message ds o)

-- the text of an operation of the program's atoms has just this operation
abbrev pub OperationTextsAreRead : Type 0
OperationTextsAreRead =
    (p : Program) (o : Operation) → IsDeclaredOperation (declarations p) o
    → operations_in (declarations p) (operation_text (declarations p) o) ≡ o ∷ []
