-- Commands as JSON values, and that these are read again.
use Rattle.std.specs.Prelude.{◌≡◌, ℕ, ◌<◌, ◌^◌, List, [], ◌∷◌, length, Some, codes, ⊤}
use Rattle.std.specs.List.{AllByRecursion}
use Rattle.serde_json.specs.Data.{Data, string}
use Rattle.chr_json.specs.declared.command.DeltaVersion.{DeltaVersion}
use Rattle.chr_json.specs.declared.command.DeltaVersion.TheVariants as version
use Rattle.chr_json.specs.NamedAtoms.{IsOperationLength}
use Rattle.chr_json.specs.Commands.{Said, show, tell, sync, summary, lacks, merge, command_of}
use Rattle.chr_json.specs.Printed.{natural_data, atoms_data, id_data, ArgumentsFit}
use Rattle.chr_json.specs.Messages.{array_data, summary_data, delta_2_data, IsRangeWithinLimits}
use Rattle.chr_json.specs.Messages.{IsOperationWithinLimits}

-- version 2 is asked for by saying nothing
abbrev pub version_data : DeltaVersion → List Data
version_data version.One = natural_data 1 ∷ []
version_data version.Two = []

-- the words of a command after its first word
abbrev pub said_data : Said → List Data
said_data (show r) = natural_data r ∷ []
said_data (tell r o n ws) = natural_data r ∷ id_data o n ∷ atoms_data ws ∷ []
said_data (sync a b) = natural_data a ∷ natural_data b ∷ []
said_data (summary r) = natural_data r ∷ []
said_data (lacks r rs v) = natural_data r ∷ summary_data rs ∷ version_data v
said_data (merge r os) = natural_data r ∷ delta_2_data os ∷ []

abbrev pub word_of : Said → List ℕ
word_of (show r) = codes "show"
word_of (tell r o n ws) = codes "tell"
word_of (sync a b) = codes "sync"
word_of (summary r) = codes "summary"
word_of (lacks r rs v) = codes "lacks"
word_of (merge r os) = codes "merge"

abbrev pub command_data : Said → Data
command_data s = array_data (string (word_of s) ∷ said_data s)

-- the origin of an operation has 32 bits, it has as many atoms as an operation may have, and their arguments fit;
-- origins and numbers of the ranges of a summary fit, and each operation of a delta is within the limits
abbrev pub IsWithinCommandLimits : Said → Type 0
IsWithinCommandLimits (tell r o n ws) = (o < 2 ^ 32) × IsOperationLength (length ws) × AllByRecursion ArgumentsFit ws
IsWithinCommandLimits (lacks r rs v) = AllByRecursion IsRangeWithinLimits rs
IsWithinCommandLimits (merge r os) = AllByRecursion IsOperationWithinLimits os
IsWithinCommandLimits (show r) = ⊤
IsWithinCommandLimits (sync a b) = ⊤
IsWithinCommandLimits (summary r) = ⊤

-- a command's own value is read as that command
abbrev pub CommandsAreRead : Type 0
CommandsAreRead = (s : Said) → IsWithinCommandLimits s → command_of (command_data s) ≡ Some s
