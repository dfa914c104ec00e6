-- Whole lines that are answered.
use Rattle.std.proofs.Common.{◌≡◌, ℕ, Bool, true, false, List, [], ◌∷◌, ◌++◌, refl, sym, ap, ◌∙◌, append_assoc}
use Rattle.std.proofs.Common.{append-nil, subst}
use Rattle.std.specs.Bool.{MatchBool}
use Rattle.chr_base.specs.declared.rule.Rule.{Rule}
use Rattle.chr_base.specs.ProgramTests.{Declaration}
use Rattle.chr_ops.specs.Operations.{Operations}
use Rattle.chr_json.specs.Lines.{is_blank_line}
use Rattle.chr_answers.specs.Lines.{HasNoFeed, lines, without_return}
use Rattle.chr_answers.specs.Answers.{AnswersAll, AnswersFirst}
use Rattle.chr_answers.specs.Answered.{AddsAnswer, AnswersFront, AnswersLine}
use Rattle.chr_answers.proofs.Feeds.{ended_more, lines_last, lines_more}

module _ (ds : List Declaration) (rules : List Rule) where
  -- ---- whole lines

  pub front_begins : (old : List Operations) → AnswersFront ds rules [] old [] old
  front_begins old more tail a = a

  line_first : (line more text tail : List ℕ) (old new : List Operations)
      → AnswersLine ds rules old (without_return line) [] new text
      → AnswersAll ds rules (lines more) new tail → AnswersAll ds rules (line ∷ lines more) old (text ++ tail)
  line_first line more text tail old new g a = by (is_blank_line (without_return line)) refl g
    where
      by : (b : Bool) → is_blank_line (without_return line) ≡ b → MatchBool b ((new ≡ old) × (text ≡ []))
          (AddsAnswer ds rules old (without_return line) [] new text) → AnswersAll ds rules (line ∷ lines more) old
          (text ++ tail)
      by true e k = rw e (subst (λ o. AnswersAll ds rules (lines more) o (text ++ tail)) k.0
          (subst (λ t. AnswersAll ds rules (lines more) new (t ++ tail)) (sym k.1) a))
      by false e k =
          let first : AnswersFirst ds rules old (without_return line) (text ++ tail)
          (AnswersAll ds rules (lines more)) =
          record {
            text = k.text;
            new = new;
            rest = tail;
            answers = k.answers;
            more = a;
            out_is =
                ap (λ t. t ++ tail) k.out_is ∙ append_assoc k.text (10 ∷ []) tail;
          } in
          rw e first

  -- the whole lines that are answered go on with one line more
  pub front_goes_on : (front line out text : List ℕ) (old mid new : List Operations) → HasNoFeed line
      → AnswersFront ds rules front old out mid → AnswersLine ds rules mid (without_return line) []
      new text → AnswersFront ds rules (front ++ (line ++ 10 ∷ [])) old (out ++ text) new
  front_goes_on front line out text old mid new h f g more tail a =
      subst (λ i. AnswersAll ds rules (lines i) old ((out ++ text) ++ tail)) (sym (ended_more front line more))
      (subst (λ o. AnswersAll ds rules (lines (front ++ (line ++ 10 ∷ more))) old o) (sym (append_assoc out text tail))
      (f (line ++ 10 ∷ more) (text ++ tail) (subst (λ ls. AnswersAll ds rules ls mid (text ++ tail))
      (sym (lines_more line more h)) (line_first line more text tail mid new g a))))

  -- whole lines that are answered, and then others, are answered together
  pub fronts_join : (one two out text : List ℕ) (old mid new : List Operations)
      → AnswersFront ds rules one old out mid → AnswersFront ds rules two mid text new
      → AnswersFront ds rules (one ++ two) old (out ++ text) new
  fronts_join one two out text old mid new f g more tail a =
      subst (λ i. AnswersAll ds rules (lines i) old ((out ++ text) ++ tail)) (sym (append_assoc one two more))
      (subst (λ o. AnswersAll ds rules (lines (one ++ (two ++ more))) old o) (sym (append_assoc out text tail))
      (f (two ++ more) (text ++ tail) (g more tail a)))

  -- whole lines, where nothing comes after them, are all answered
  pub front_is_answered : (front out : List ℕ) (old now : List Operations) → AnswersFront ds rules front old out now
      → AnswersAll ds rules (lines front) old out
  front_is_answered front out old now f =
      subst (λ i. AnswersAll ds rules (lines i) old out) (append-nil front)
      (subst (λ o. AnswersAll ds rules (lines (front ++ [])) old o) (append-nil out) (f [] [] refl))

  -- a last line without its line feed is answered after the whole lines
  pub last_is_answered : (front line out text : List ℕ) (old mid new : List Operations) → HasNoFeed line
      → AnswersFront ds rules front old out mid → AnswersLine ds rules mid (without_return line) []
      new text → AnswersAll ds rules (lines (front ++ line)) old (out ++ text)
  last_is_answered front line out text old mid new h f g =
      f line text (subst (λ ls. AnswersAll ds rules ls mid text) (sym (lines_last line h))
      (last (is_blank_line (without_return line)) refl g))
    where
      last : (b : Bool) → is_blank_line (without_return line) ≡ b → MatchBool b ((new ≡ mid) × (text ≡ []))
          (AddsAnswer ds rules mid (without_return line) [] new text) → AnswersAll ds rules (line ∷ []) mid text
      last true e k = rw e k.1
      last false e k =
          let first : AnswersFirst ds rules mid (without_return line) text (AnswersAll ds rules []) =
          record { text = k.text; new = new; rest = []; answers = k.answers; more = refl; out_is = k.out_is } in
          rw e first

  -- what an answer adds to a text
  pub adds : (line before after : List ℕ) (old new : List Operations) → AnswersLine ds rules old line before new after
      → (text : List ℕ) × AnswersLine ds rules old line [] new text × (after ≡ before ++ text)
  adds line before after old new g = by (is_blank_line line) refl g
    where
      by : (b : Bool) → is_blank_line line ≡ b → MatchBool b ((new ≡ old) × (after ≡ before))
          (AddsAnswer ds rules old line before new after) → (text : List ℕ) × AnswersLine ds rules old line []
          new text × (after ≡ before ++ text)
      by true e k =
          let none : AnswersLine ds rules old line [] new [] = rw e (k.0, refl) in
          ([], none, k.1 ∙ sym (append-nil before))
      by false e k =
          let one : AddsAnswer ds rules old line [] new (k.text ++ 10 ∷ []) =
          record { text = k.text; answers = k.answers; out_is = refl } in
          let some : AnswersLine ds rules old line [] new (k.text ++ 10 ∷ []) = rw e one in
          (k.text ++ 10 ∷ [], some, k.out_is ∙ append_assoc before k.text (10 ∷ []))
