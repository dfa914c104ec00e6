-- The answers of the lines for which what is held of them stands.
use Rattle.std.proofs.Common.{◌≡◌, ℕ, Bool, true, false, List}
use Rattle.std.proofs.Common.{subst}
use Rattle.std.specs.Bool.{MatchBool}
use Rattle.chr_base.specs.declared.rule.Rule.{Rule}
use Rattle.chr_base.specs.ProgramTests.{Declaration}
use Rattle.chr_ops.specs.Operations.{Operations}
use Rattle.chr_json.specs.Lines.{is_blank_line}
use Rattle.chr_answers.specs.Answers.{AnswersRead}
use Rattle.chr_answers.specs.Answered.{AnswersLine, AddsAnswer}
use Rattle.chr_answers.specs.Shortened.{AreAlike}

match_bool : (P Q R : Type 0) (a b : Bool) → a ≡ b → (Q → R) → MatchBool a P Q → MatchBool b P R
match_bool P Q R true b e f h = subst (λ c. MatchBool c P R) e h
match_bool P Q R false b e f h = subst (λ c. MatchBool c P R) e (f h)

module _ (ds : List Declaration) (rules : List Rule) where
  pub line_for : (a b before after : List ℕ) (old new : List Operations) → AreAlike a b
      → AnswersLine ds rules old a before new after → AnswersLine ds rules old b before new after
  line_for a b before after old new alike =
      match_bool _ _ _ (is_blank_line a) (is_blank_line b) alike.0
      (λ k. let h : AddsAnswer ds rules old b before new after =
      record {
        text = k.text;
        answers = subst (λ s. AnswersRead ds rules old s k.text new) alike.1 k.answers;
        out_is = k.out_is;
      } in h)
