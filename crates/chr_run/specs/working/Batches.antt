-- A batch that is answered part by part.
use Rattle.std.specs.Prelude.{◌≡◌, ℕ, List, ◌++◌, Option}
use Rattle.chr_device.specs.Devices.{AppendsPart}
use Rattle.chr_run.specs.Answered.{Moves}

-- bytes are answered, and of the answers some are sent
pub record AnswersBatch {M : Type 0} (Answers : List ℕ → List ℕ → M → Type 0) (now : M) (bytes : List ℕ)
    (from to : Option (List ℕ)) (held left : List ℕ) : Type 0 where
  pub text : List ℕ
  pub answers : Answers bytes text now
  pub moves : Moves from to held left text

-- of the answers to some of the bytes a beginning is sent
pub record AnswersPart {M : Type 0} (Answers : List ℕ → List ℕ → M → Type 0) (bytes : List ℕ)
    (from to : Option (List ℕ)) (held : List ℕ) : Type 0 where
  pub part : List ℕ
  pub rest : List ℕ
  pub are : bytes ≡ part ++ rest
  pub now : M
  pub text : List ℕ
  pub answers : Answers part text now
  pub part_sent : AppendsPart from to (held ++ text)

-- part of the bytes is answered, and the rest is left
pub record AnswersFront {M : Type 0} (Answers : List ℕ → List ℕ → M → Type 0) (now : M) (bytes rest : List ℕ)
    (from to : Option (List ℕ)) (held left : List ℕ) : Type 0 where
  pub part : List ℕ
  pub are : bytes ≡ part ++ rest
  pub answered : AnswersBatch Answers now part from to held left
