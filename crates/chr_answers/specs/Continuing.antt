-- Lines that are answered one after another.
use Rattle.std.specs.Prelude.{◌≡◌, ℕ, List, ◌++◌, length, string_bytes}
use Rattle.chr_base.specs.Programs.{declarations, rules_of}
use Rattle.chr_answers.specs.declared.answering.Answering.{Answering}
use Rattle.chr_answers.specs.Lines.{HasNoFeed}
use Rattle.chr_answers.specs.Lines.{last_bytes}
use Rattle.chr_answers.specs.Services.{held, served, IsBetweenLines}
use Rattle.chr_answers.specs.Answered.{AnswersFront}

-- some of the lines that were left of a text are answered
pub record GoesOn (text : List ℕ) (s t : Answering) : Type 0 where
  pub ready : IsBetweenLines t.service
  pub program : t.service.world.accepted ≡ s.service.world.accepted
  pub front : List ℕ
  pub out : List ℕ
  pub are : last_bytes s.left text ≡ front ++ last_bytes t.left text
  pub answers : AnswersFront (declarations (served s.service)) (rules_of (served s.service)) front
      (held s.service) out (held t.service)
  pub written : string_bytes t.out ≡ string_bytes s.out ++ out

-- the lines that end in a text are answered
abbrev pub AnswersLines : List ℕ → Answering → Answering → Type 0
AnswersLines text s t =
    GoesOn text (record { service = s.service; out = s.out; left = length text }) t × HasNoFeed (last_bytes t.left text)
