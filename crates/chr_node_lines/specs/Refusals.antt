-- Refusals of what lines ask.
use Rattle.std.specs.Prelude.{ℕ, List, codes}
use Rattle.chr_json.specs.declared.fault.LineFault.{LineFault}
use Rattle.chr_json.specs.declared.fault.LineFault.TheVariants as line
use Rattle.chr_node_lines.specs.declared.fault.Refusal.{Refusal}
use Rattle.chr_node_lines.specs.declared.fault.Refusal.TheVariants as refusal

abbrev pub refusal_number : Refusal → ℕ
refusal_number refusal.BadLine = 30
refusal_number refusal.NoWord = 31
refusal_number refusal.UnknownSymbol = 32
refusal_number refusal.Clash = 33
refusal_number refusal.Full = 34
refusal_number refusal.NotNext = 41
refusal_number refusal.NoText = 42
refusal_number refusal.WrongArguments = 43
refusal_number refusal.WrongArity = 44
refusal_number refusal.Memory = 99

-- the refusal of a line for one of the reader of JSON
abbrev pub refusal_of : LineFault → Refusal
refusal_of line.Memory = refusal.Memory
refusal_of line.BadLine = refusal.BadLine
refusal_of line.Shape = refusal.WrongArguments

-- the refusal in words
abbrev pub sentence_of : Refusal → List ℕ
sentence_of refusal.BadLine = codes "the line is no JSON value of at most 1048576 bytes"
sentence_of refusal.NoWord = codes "the line is no array that begins with a word of a node"
sentence_of refusal.UnknownSymbol = codes "the program declares no symbol of this name"
sentence_of refusal.Clash = codes "the number stands for other atoms"
sentence_of refusal.Full = codes "more than 1000000 atoms would be told"
sentence_of refusal.NotNext = codes "the number is not the next one"
sentence_of refusal.NoText = codes "the operation has no text that can be kept"
sentence_of refusal.WrongArguments = codes "the word takes other arguments"
sentence_of refusal.WrongArity = codes "the program declares this name with another number of arguments"
sentence_of refusal.Memory = codes "there is not enough memory"
