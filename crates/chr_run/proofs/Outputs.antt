-- The answers to all of an input, as they are written.
use Rattle.std.proofs.Common.{◌≡◌, ℕ, List, [], ◌++◌, refl, sym, ap, ◌∙◌, append-nil, subst, inr}
use Rattle.std.specs.Prelude.{Option, Some, Result, Ok, Err, OnOk}
use Rattle.std.specs.Io.KnownBytes.{Appends, Consumes, prepend_known}
use Rattle.std.proofs.KnownBytes.{prepend_known-nil}
use Rattle.chr_device.specs.Devices.{AppendsPart}
use Rattle.chr_run.specs.Answered.{AnswersInput, HasAnswered, Moves}
use Rattle.chr_run.specs.Written.{AllAnswered, WritesAnswers, WritesBeginning}

pub both_ok : {A E P Q R : Type 0} (r : Result A E) → (P → Q → R) → OnOk r P → OnOk r Q → OnOk r R
both_ok (Ok x) f p q = f p q
both_ok (Err e) f p q = tt

-- nothing was read before
from_all : (none : List ℕ) (known : Option (List ℕ)) (Q : Option (List ℕ) → Type 0) → none ≡ []
    → Q (prepend_known none known) → Q known
from_all none known Q n q = subst Q (ap (λ l. prepend_known l known) n ∙ prepend_known-nil known) q

-- all that was held is sent
all_sent : (old new : Option (List ℕ)) (held left text : List ℕ) → held ≡ [] → left ≡ [] → Moves old new held left text
    → Appends old new text
all_sent old new held left text e f m =
    subst (Appends old new) (sym (ap (λ l. l ++ text) (sym e) ∙ m.are ∙ ap (λ l. m.sent ++ l) f ∙ append-nil m.sent))
    m.is_sent

pub is_prompt : {M : Type 0} (Answers : List ℕ → List ℕ → M → Type 0) (IsDone : M → Type 0) (now : M)
    (from to old new : Option (List ℕ)) (first held left : List ℕ) → first ≡ [] → held ≡ [] → left ≡ []
    → ¬ IsDone now
    → HasAnswered Answers now first (prepend_known [] from) (prepend_known [] to) old new held left
    → AllAnswered Answers IsDone from to old new
is_prompt Answers IsDone now from to old new first held left n e f more s = record {
  bytes = s.bytes;
  read = from_all [] to (λ k. Consumes from k s.bytes) refl
      (from_all [] from (λ k. Consumes k (prepend_known [] to) s.bytes) refl s.given);
  now = now;
  text = s.text;
  answers = subst (λ l. Answers (l ++ s.bytes) s.text now) n s.answers;
  goes_on = more;
  written = all_sent old new held left _ e f s.moves;
}

-- what is answered in one way is answered in another
pub answers_too : (Has Is : List ℕ → List ℕ → Type 0) → ((input text : List ℕ) → Has input text → Is input text)
    → (first : List ℕ) (known : Option (List ℕ)) (P : List ℕ → Type 0) → AnswersInput Has first known P
    → AnswersInput Is first known P
answers_too Has Is f first known P a = record {
  input = a.input;
  is_read = a.is_read;
  text = a.text;
  answers = f _ _ a.answers;
  is_written = a.is_written;
}

module _ (IsAnswered : List ℕ → List ℕ → Type 0) where
  with_written : (first : List ℕ) (known : Option (List ℕ)) (P Q : List ℕ → Type 0)
      → ((text : List ℕ) → P text → Q text)
      → first ≡ [] → AnswersInput IsAnswered first known P → AnswersInput IsAnswered [] known Q
  with_written first known P Q f n a = record {
    input = a.input;
    is_read = a.is_read;
    text = a.text;
    answers = subst (λ l. IsAnswered (l ++ a.input) a.text) n a.answers;
    is_written = f a.text a.is_written;
  }

  pub served : (known old new : Option (List ℕ)) (none first held left : List ℕ) → none ≡ [] → first ≡ [] → held ≡ []
      → left ≡ [] → AnswersInput IsAnswered first (prepend_known none known) (Moves old new held left)
      → WritesAnswers IsAnswered known old new
  served known old new none first held left n o e f a = from_all none known (λ k. WritesAnswers IsAnswered k old new) n
      (with_written _ _ _ _ (λ text m. all_sent old new held left text e f m) o a)

  pub served_part : (known old new : Option (List ℕ)) (none first held : List ℕ) → none ≡ [] → first ≡ [] → held ≡ []
      → AnswersInput IsAnswered first (prepend_known none known) (λ text. AppendsPart old new (held ++ text))
      → WritesBeginning IsAnswered known old new
  served_part known old new none first held n o e a = inr (from_all none known
      (λ k. AnswersInput IsAnswered [] k (AppendsPart old new)) n
      (with_written _ _ _ _ (λ text w. subst (λ h. AppendsPart old new (h ++ text)) e w) o a))

  -- of what is held in the end something is written
  pub ran : (P : List ℕ → Type 0) (known : Option (List ℕ)) (none first held left : List ℕ) → none ≡ [] → first ≡ []
      → held ≡ [] → AnswersInput IsAnswered first (prepend_known none known) (Moves (Some []) (Some []) held left)
      → P left → AnswersInput IsAnswered [] known P
  ran P known none first held left n o e a p = from_all none known (λ k. AnswersInput IsAnswered [] k P) n
      (with_written _ _ _ _ (λ text m. subst P (sym (ap (λ l. l ++ text) (sym e) ∙ m.are
      ∙ ap (λ l. l ++ left) (sym m.is_sent))) p) o a)
