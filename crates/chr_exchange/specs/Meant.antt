-- What a JSON value, and a text, means as a message, or why it is refused; and what the readers' answers mean.
use Rattle.std.specs.Prelude.{◌≡◌, ℕ, List, Option, Some, None, Result, Ok, Err, ⊤}
use Rattle.std.specs.Option.{ok_or}
use Rattle.serde_json.specs.Data.{Data}
use Rattle.chr_base.specs.ProgramTests.{Declaration}
use Rattle.chr_json.specs.Values.{json_in}
use Rattle.chr_json.specs.Summaries.{summary_of}
use Rattle.chr_json.specs.Deltas.{NamedOperation, delta_of}
use Rattle.chr_ops.specs.declared.id.OpId.{OpId}
use Rattle.chr_ops.specs.declared.range.IdRange.{IdRange}
use Rattle.chr_ops.specs.Operations.{Operation}
use Rattle.chr_ops.specs.Summaries.{covers}
use Rattle.chr_exchange.specs.declared.fault.MessageFault.{MessageFault}
use Rattle.chr_exchange.specs.declared.fault.MessageFault.TheVariants as fault
use Rattle.chr_exchange.specs.Names.{declared_operation, declared_operations}

-- the ranges of a summary
abbrev pub summary_meant : Data → Result (List IdRange) MessageFault
summary_meant d = ok_or (summary_of d) fault.Shape

-- an operation, by its shape, and then by the program's declarations
abbrev pub operation_meant : List Declaration → Option NamedOperation → Result Operation MessageFault
operation_meant ds None = Err fault.Shape
operation_meant ds (Some o) = ok_or (declared_operation ds o) fault.UnknownSymbol

-- what operations mean: the shape of all of them is looked at first, and then the program's declarations
abbrev pub operations_meant : List Declaration → Option (List NamedOperation) → Result (List Operation) MessageFault
operations_meant ds None = Err fault.Shape
operations_meant ds (Some os) = ok_or (declared_operations ds os) fault.UnknownSymbol

-- the operations of a delta of either version, in its order, as often as they stand there
abbrev pub delta_meant : List Declaration → Data → Result (List Operation) MessageFault
delta_meant ds d = operations_meant ds (delta_of d)

-- what f says of the JSON value of a text, if it is one
abbrev pub in_value : {A : Type 0} → (Data → Result A MessageFault) → Option Data → Result A MessageFault
in_value f None = Err fault.BadJson
in_value f (Some d) = f d

abbrev pub summary_in : List ℕ → Result (List IdRange) MessageFault
summary_in text = in_value summary_meant (json_in text)

abbrev pub delta_in : List Declaration → List ℕ → Result (List Operation) MessageFault
delta_in ds text = in_value (delta_meant ds) (json_in text)

-- `Memory` says nothing of the message; every other refusal is that of what is meant
abbrev pub Fails : {A : Type 0} → MessageFault → Result A MessageFault → Type 0
Fails fault.BadJson meant = meant ≡ Err fault.BadJson
Fails fault.Shape meant = meant ≡ Err fault.Shape
Fails fault.UnknownSymbol meant = meant ≡ Err fault.UnknownSymbol
Fails fault.Memory meant = ⊤

-- the answer, seen by `view`, is what is meant
abbrev pub Gives : {X A : Type 0} → (X → A) → Result X MessageFault → Result A MessageFault → Type 0
Gives view (Ok x) meant = meant ≡ Ok (view x)
Gives view (Err e) meant = Fails e meant

-- the summary covers the ids that the meant ranges cover
abbrev pub GivesCover : Result (List IdRange) MessageFault → Result (List IdRange) MessageFault → Type 0
GivesCover (Ok s) meant = (rs : List IdRange) × (meant ≡ Ok rs) × ((id : OpId) → covers s id ≡ covers rs id)
GivesCover (Err e) meant = Fails e meant
