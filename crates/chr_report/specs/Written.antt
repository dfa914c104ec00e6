-- What was written, by the bytes that a reader had and those that a writer holds, where these are known.
use Rattle.std.specs.Prelude.{◌≡◌, ℕ, List, [], ◌⊎◌, Option, IfSome}
use Rattle.std.specs.Io.KnownBytes.{Appends}
use Rattle.chr_device.specs.Devices.{AppendsPart}
use Rattle.chr_device.specs.declared.words.Verb.{Verb}
use Rattle.chr_report.specs.declared.running.Status.{Status}
use Rattle.chr_report.specs.declared.wanted.Wanted.{Wanted}
use Rattle.chr_report.specs.Outputs.{IsOutput}

-- there is an output of the input, with this status, that fits `IsWritten`
pub record Writes (bytes : Option (List ℕ)) (verb : Verb) (wanted : Wanted) (status : Status)
    (IsWritten : List ℕ → Type 0) : Type 0 where
  pub input : List ℕ
  pub is_read : IfSome bytes (λ all. input ≡ all)
  pub out : List ℕ
  pub is_output : IsOutput verb wanted input status out
  pub is_written : IsWritten out

-- the output of the input, with this status, is written
abbrev pub WritesOutput :
    Option (List ℕ) → Option (List ℕ) → Option (List ℕ) → Verb → Wanted → Status → Type 0
WritesOutput bytes old new verb wanted status = Writes bytes verb wanted status (Appends old new)

-- nothing is written, or a beginning of an output of the input
abbrev pub WritesBeginning : Option (List ℕ) → Option (List ℕ) → Option (List ℕ) → Verb → Wanted → Type 0
WritesBeginning bytes old new verb wanted =
    Appends old new [] ⊎ ((status : Status) × Writes bytes verb wanted status (AppendsPart old new))
