-- Bytes that are read and answered, as far as they have come.
use Rattle.std.specs.Prelude.{◌≡◌, ℕ, List, ◌++◌, Option}
use Rattle.std.specs.Io.KnownBytes.{Consumes}
use Rattle.chr_base.specs.declared.rule.Rule.{Rule}
use Rattle.chr_base.specs.ProgramTests.{Declaration}
use Rattle.chr_ops.specs.Operations.{Operations}
use Rattle.chr_answers.specs.Answered.{AnswersFront}

-- of the first bytes and those that were read some are answered, and these are left
pub record AnswersUpTo (ds : List Declaration) (rules : List Rule) (first : List ℕ) (from to : Option (List ℕ))
    (left : List ℕ) (start now : List Operations) (before after : List ℕ) : Type 0 where
  pub bytes : List ℕ
  pub read : Consumes from to bytes
  pub front : List ℕ
  pub out : List ℕ
  pub are : first ++ bytes ≡ front ++ left
  pub answers : AnswersFront ds rules front start out now
  pub written : after ≡ before ++ out
