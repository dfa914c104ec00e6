-- Refusals of messages.
use Rattle.std.specs.Prelude.{ℕ}
use Rattle.chr_json.specs.declared.fault.LineFault.{LineFault}
use Rattle.chr_json.specs.declared.fault.LineFault.TheVariants as line
use Rattle.chr_exchange.specs.declared.fault.MessageFault.{MessageFault}
use Rattle.chr_exchange.specs.declared.fault.MessageFault.TheVariants as fault

abbrev pub fault_number : MessageFault → ℕ
fault_number fault.BadJson = 30
fault_number fault.Shape = 31
fault_number fault.UnknownSymbol = 32
fault_number fault.Memory = 99

-- the refusal of a message for one of the reader of JSON
abbrev pub message_fault : LineFault → MessageFault
message_fault line.Memory = fault.Memory
message_fault line.BadLine = fault.BadJson
message_fault line.Shape = fault.Shape
