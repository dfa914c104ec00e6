-- Answers added to a text.
use Rattle.std.specs.Prelude.{◌≡◌, ℕ, List, [], ◌∷◌, ◌++◌}
use Rattle.std.specs.Bool.{MatchBool}
use Rattle.chr_base.specs.declared.rule.Rule.{Rule}
use Rattle.chr_base.specs.ProgramTests.{Declaration}
use Rattle.chr_ops.specs.Operations.{Operations}
use Rattle.chr_json.specs.Lines.{is_blank_line}
use Rattle.chr_answers.specs.Answers.{Answers, AnswersAll}
use Rattle.chr_answers.specs.Lines.{lines}

-- the answer of a line that is not blank, with its line feed
pub record AddsAnswer (ds : List Declaration) (rules : List Rule) (old : List Operations) (line before : List ℕ)
    (new : List Operations) (after : List ℕ) : Type 0 where
  pub text : List ℕ
  pub answers : Answers ds rules old line text new
  pub out_is : after ≡ before ++ text ++ 10 ∷ []

abbrev pub AnswersLine :
    List Declaration → List Rule → List Operations → List ℕ → List ℕ → List Operations → List ℕ → Type 0
AnswersLine ds rules old line before new after =
    MatchBool (is_blank_line line) ((new ≡ old) × (after ≡ before)) (AddsAnswer ds rules old line before new after)

-- the answers of all these lines
pub record AnswersRest (ds : List Declaration) (rules : List Rule) (ls : List (List ℕ)) (old : List Operations)
    (before after : List ℕ) : Type 0 where
  pub out : List ℕ
  pub answers : AnswersAll ds rules ls old out
  pub out_is : after ≡ before ++ out

-- `out` answers the whole lines `front`, and whatever comes after them is answered from `now` on
abbrev pub AnswersFront :
    List Declaration → List Rule → List ℕ → List Operations → List ℕ → List Operations → Type 0
AnswersFront ds rules front old out now =
    (more tail : List ℕ) → AnswersAll ds rules (lines more) now tail
    → AnswersAll ds rules (lines (front ++ more)) old (out ++ tail)
