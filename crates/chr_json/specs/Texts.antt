-- Commands as compact JSON, and that a line of this text says its command.
use Rattle.std.specs.Prelude.{◌≡◌, ℕ, ◌<◌, ◌≤◌, ◌^◌, List, length, Ok}
use Rattle.std.specs.Str.{IsUtf8}
use Rattle.serde_json.specs.Written.{compact_text}
use Rattle.chr_json.specs.declared.limits.TheConstants.{MAX_LINE}
use Rattle.chr_json.specs.Commands.{Said, show, tell, sync, summary, lacks, merge}
use Rattle.chr_json.specs.WrittenCommands.{command_data, IsWithinCommandLimits}
use Rattle.chr_json.specs.Reads.{line_said}

-- a command's value as JSON without white space
abbrev pub command_text : Said → List ℕ
command_text s = compact_text (command_data s)

-- replicas and numbers of operations have 64 bits
abbrev pub HasNumbers : Said → Type 0
HasNumbers (show r) = r < 2 ^ 64
HasNumbers (tell r o n ws) = (r < 2 ^ 64) × (n < 2 ^ 64)
HasNumbers (sync a b) = (a < 2 ^ 64) × (b < 2 ^ 64)
HasNumbers (summary r) = r < 2 ^ 64
HasNumbers (lacks r rs v) = r < 2 ^ 64
HasNumbers (merge r os) = r < 2 ^ 64

abbrev pub IsWithinTextLimits : Said → Type 0
IsWithinTextLimits s = IsWithinCommandLimits s × HasNumbers s

-- a command's own text says that command, where it is UTF-8 and no longer than a line may be
abbrev pub CommandTextsAreSaid : Type 0
CommandTextsAreSaid =
    (s : Said) → IsWithinTextLimits s → IsUtf8 (command_text s) → length (command_text s) ≤ MAX_LINE
    → line_said (command_text s) ≡ Ok s
