-- An input has an output, and one only.
use Rattle.std.specs.Prelude.{◌≡◌, ℕ, List}
use Rattle.chr_join.specs.declared.coverage.Coverage.TheVariants.{Joint}
use Rattle.chr_device.specs.declared.words.Verb.{Verb}
use Rattle.chr_report.specs.declared.running.Status.{Status}
use Rattle.chr_report.specs.declared.wanted.Wanted.{Wanted}
use Rattle.chr_report.specs.Asked.{replicas_by}
use Rattle.chr_report.specs.Outputs.{IsOutput}

-- where programs are judged by joint cases, some status and some text are an output
abbrev pub OutputsExist : Type 0
OutputsExist =
    (verb : Verb) (replicas : ℕ) (input : List ℕ)
    → (status : Status) × (out : List ℕ) × IsOutput verb (replicas_by Joint replicas) input status out

-- two outputs for the same bytes have one status and are one text
abbrev pub OutputsAreOne : Type 0
OutputsAreOne =
    (verb : Verb) (wanted : Wanted) (input : List ℕ) (status status' : Status) (out out' : List ℕ)
    → IsOutput verb wanted input status out → IsOutput verb wanted input status' out'
    → (status ≡ status') × (out ≡ out')
