-- A law of inputs and of their outputs.
use Rattle.std.specs.Prelude.{◌≡◌, ℕ, List, ◌++◌}
use Rattle.chr_device.specs.declared.words.Verb.TheVariants.{Check, Run}
use Rattle.chr_report.specs.declared.running.Status.{Status}
use Rattle.chr_report.specs.declared.wanted.Wanted.{Wanted}
use Rattle.chr_report.specs.Outputs.{IsOutput}

-- what a run writes is what a check of the same input writes, and then the answers; both have one status
abbrev pub ChecksBeginRuns : Type 0
ChecksBeginRuns =
    (wanted : Wanted) (input : List ℕ) (status : Status) (out : List ℕ) → IsOutput Run wanted input status out
    → (verdict : List ℕ) × (answers : List ℕ) × (out ≡ verdict ++ answers)
    × IsOutput Check wanted input status verdict
