-- The status that the program ends with, what has failed, and what it has written then.
use Rattle.std.specs.Prelude.{◌≡◌, ◌≢◌, ◌⊎◌, ℕ, Bool, true, false, List, [], ◌∷◌, ◌++◌, Option, Result, Ok, Err}
use Rattle.std.specs.Prelude.{⊤, IfOk, IfSome, IsErrOf, OnErr, OnOk}
use Rattle.chr_device.specs.Devices.{has_failed}
use Rattle.chr_device.specs.declared.fault.RunFault.{RunFault}
use Rattle.chr_device.specs.declared.fault.RunFault.TheVariants.{Device, Memory}
use Rattle.chr_device.specs.declared.words.Verb.{Verb}
use Rattle.chr_device.specs.declared.words.Verb.TheVariants.{Check, Explain, Serve}
use Rattle.chr_device.specs.Words.{faults_of, replicas_met, verb_met, wide_met}
use Rattle.chr_join.specs.declared.coverage.Coverage.{Coverage}
use Rattle.chr_join.specs.declared.coverage.Coverage.TheVariants.{Joint, Sorted}
use Rattle.chr_join.specs.declared.refused.TooManyTypes.{TooManyTypes}
use Rattle.chr_report.specs.declared.running.Status.{Status}
use Rattle.chr_report.specs.declared.running.Status.TheVariants.{Accepted, Refused}
use Rattle.chr_report.specs.declared.wanted.Wanted.{Wanted}
use Rattle.chr_report.specs.declared.wire.Streams.{Streams}
use Rattle.chr_report.specs.Asked.{coverage_for, replicas_by}
use Rattle.chr_report.specs.Outputs.{IsOutput}
use Rattle.chr_report.specs.Overlaps.{too_many_text}
use Rattle.chr_report.specs.Wires.{is_broken}
use Rattle.chr_report.specs.Written.{WritesOutput, WritesBeginning}

abbrev pub status_of : Result Status RunFault → ℕ
status_of (Ok Accepted) = 0
status_of (Ok Refused) = 1
status_of (Err Device) = 3
status_of (Err Memory) = 4

-- what the words ask a verdict and a run to be by: the cases of the verdict, and the number of replicas
abbrev pub wanted_met : List (List ℕ) → Wanted
wanted_met words = replicas_by (coverage_for (wide_met words)) (replicas_met words)

-- the status is that of the outcome; the outcome is a device's fault where the reader or the writer has failed, and
-- only there
pub record EndsBy {R W : Type 0} (to : Streams R W) (status : ℕ) (outcome : Result Status RunFault) : Type 0 where
  pub status_is : status ≡ status_of outcome
  pub whole : OnOk outcome (is_broken to ≡ false)
  pub device : IsErrOf outcome Device → is_broken to ≡ true
  pub memory : IsErrOf outcome Memory → is_broken to ≡ false

-- all is written at the end: nothing where the reader failed, and nothing where memory ran out
pub record WritesLast {R W : Type 0} (from to : Streams R W) (outcome : Result Status RunFault) : Type 0 where
  pub unread : has_failed to.reader ≡ true → to.writer ≡ from.writer
  pub unanswered : IsErrOf outcome Memory → to.writer ≡ from.writer

-- A run of this verb ended with this status: with the whole output for what was wanted, or with a beginning of it. Only
-- a service may have written some of it before its end.
pub record RunEnds {R W : Type 0} (from to : Streams R W) (bytes old new : Option (List ℕ)) (verb : Verb)
    (wanted : Wanted) (status : ℕ) : Type 0 where
  pub outcome : Result Status RunFault
  pub ends : EndsBy to status outcome
  pub ok : IfOk outcome (WritesOutput bytes old new verb wanted)
  pub err : OnErr outcome (WritesBeginning bytes old new verb wanted)
  pub last : verb ≢ Serve → WritesLast from to outcome

-- the cases by which an explanation judges: sorted ones where they are asked for, and else joint ones, or sorted ones
-- where a check by joint ones writes that an overlap has too many of them
abbrev pub IsJudgedBy : Bool → List ℕ → Coverage → Type 0
IsJudgedBy true input coverage = coverage ≡ Sorted
IsJudgedBy false input Joint = ⊤
IsJudgedBy false input Sorted =
    (t : TooManyTypes) × IsOutput Check (replicas_by Joint 1) input Refused (too_many_text t ++ 10 ∷ [])

-- a check of these bytes, where they are known, ends with this status, by the cases by which an explanation judges them
abbrev pub EndsAsJudged : Bool → Option (List ℕ) → Status → Type 0
EndsAsJudged wide bytes status =
    (input : List ℕ) × IfSome bytes (λ text. input ≡ text) × (coverage : Coverage) × IsJudgedBy wide input coverage
    × (out : List ℕ) × IsOutput Check (replicas_by coverage 1) input status out

-- An explanation, by sorted cases where `wide`, ended with this status. Where it ended well, a check of the same bytes
-- ends with the same status.
pub record ExplanationEnds {R W : Type 0} (from to : Streams R W) (wide : Bool) (bytes : Option (List ℕ))
    (status : ℕ) : Type 0 where
  pub outcome : Result Status RunFault
  pub ends : EndsBy to status outcome
  pub ok : IfOk outcome (EndsAsJudged wide bytes)
  pub last : WritesLast from to outcome

-- words were refused, or could not be had: nothing was read or written
pub record IsStopped {R W : Type 0} (from to : Streams R W) (status : ℕ) : Type 0 where
  pub status_is : (status ≡ 2) ⊎ (status ≡ 4)
  pub untouched : to ≡ from

-- the program, called with these words, ended with this status
pub record ProgramEnds {R W : Type 0} (words : List (List ℕ)) (from to : Streams R W) (bytes old new : Option (List ℕ))
    (status : ℕ) : Type 0 where
  pub taken : faults_of words ≡ [] → verb_met words ≢ Explain
      → RunEnds from to bytes old new (verb_met words) (wanted_met words) status
  pub explained : faults_of words ≡ [] → verb_met words ≡ Explain
      → ExplanationEnds from to (wide_met words) bytes status
  pub refused : faults_of words ≢ [] → IsStopped from to status

-- the program was stopped before it had words, or ended as it does when it is called with some words
abbrev pub EndsByWords : {R W : Type 0} → Streams R W → Streams R W → Option (List ℕ) → Option (List ℕ)
    → Option (List ℕ) → ℕ → Type 0
EndsByWords from to bytes old new status =
    IsStopped from to status ⊎ ((words : List (List ℕ)) × ProgramEnds words from to bytes old new status)
