-- What was written, by the bytes that a peer had to give and those that a peer was sent, where these are known.
use Rattle.std.specs.Prelude.{ℕ, ◌⊎◌, List, [], Option}
use Rattle.std.specs.Io.KnownBytes.{Appends, Consumes}
use Rattle.chr_device.specs.Devices.{AppendsPart}
use Rattle.chr_run.specs.Answered.{AnswersInput}

-- the answers to the input
abbrev pub WritesAnswers : (List ℕ → List ℕ → Type 0) → Option (List ℕ) → Option (List ℕ) → Option (List ℕ) → Type 0
WritesAnswers IsAnswered known old new = AnswersInput IsAnswered [] known (Appends old new)

-- nothing, or a beginning of answers to the input
abbrev pub WritesBeginning : (List ℕ → List ℕ → Type 0) → Option (List ℕ) → Option (List ℕ) → Option (List ℕ) → Type 0
WritesBeginning IsAnswered known old new =
    Appends old new [] ⊎ AnswersInput IsAnswered [] known (AppendsPart old new)

-- all bytes that were read are answered, all answers are sent, and more may be answered
pub record AllAnswered {M : Type 0} (Answers : List ℕ → List ℕ → M → Type 0) (IsDone : M → Type 0)
    (from to old new : Option (List ℕ)) : Type 0 where
  pub bytes : List ℕ
  pub read : Consumes from to bytes
  pub now : M
  pub text : List ℕ
  pub answers : Answers bytes text now
  pub goes_on : ¬ IsDone now
  pub written : Appends old new text
