-- A batch that is answered part by part.
use Rattle.std.proofs.Common.{◌≡◌, ℕ, List, [], ◌++◌, refl, sym, ap, ◌∙◌, append_assoc, append-nil, subst, drop, length}
use Rattle.std.proofs.Common.{zero, suc, ◌≤◌, ◌∷◌, arith}
use Rattle.std.specs.Prelude.{Option}
use Rattle.chr_device.specs.Devices.{AppendsPart}
use Rattle.chr_run.specs.Answered.{AnswersSome, Moves}
use Rattle.chr_run.specs.working.Batches.{AnswersBatch, AnswersFront, AnswersPart}
use Rattle.chr_run.proofs.Moving.{moves_none, moves_held, moves_settled, part_still, part_moved}

pub none_after : (n : ℕ) (l : List ℕ) → length l ≤ n → drop n l ≡ []
none_after zero [] e = refl
none_after zero (x ∷ xs) e = absurd (omega (arith, e))
none_after (suc n) [] e = refl
none_after (suc n) (x ∷ xs) e = none_after n xs (omega (arith, e))

module _ {M : Type 0} (Answers : M → List ℕ → List ℕ → M → Type 0) where
  -- of a batch that has these bytes
  pub of_batch : (mid now : M) (bytes other : List ℕ) (at to : ℕ) (left more : List ℕ) → other ≡ bytes
      → AnswersSome (Answers mid) now other at to left more → AnswersSome (Answers mid) now bytes at to left more
  of_batch mid now bytes other at to left more e t = subst (λ l. AnswersSome (Answers mid) now l at to left more) e t

  pub begun : ((m : M) → Answers m [] [] m) → (m : M) (bytes : List ℕ) (a : Option (List ℕ)) (held : List ℕ)
      → AnswersFront (Answers m) m bytes bytes a a held held
  begun starts m bytes a held = record {
    part = [];
    are = refl;
    answered = record { text = []; answers = starts m; moves = moves_none a held };
  }

  module _ (joins : (a b c : M) (front rest x y : List ℕ) → Answers a front x b → Answers b rest y c
      → Answers a (front ++ rest) (x ++ y) c) where
    pub goes_on : (start mid now : M) (all bytes : List ℕ) (at to : ℕ) (a b c : Option (List ℕ))
        (held left more last : List ℕ) → AnswersFront (Answers start) mid all (drop at bytes) a b held left
        → AnswersSome (Answers mid) now bytes at to left more → Moves b c more last []
        → AnswersFront (Answers start) now all (drop to bytes) a c held last
    goes_on start mid now all bytes at to a b c held left more last s t w = record {
      part = s.part ++ t.part;
      are = s.are ∙ ap (λ l. s.part ++ l) t.are ∙ sym (append_assoc s.part t.part (drop to bytes));
      answered = record {
        text = s.answered.text ++ t.text;
        answers = joins start mid now s.part t.part s.answered.text t.text s.answered.answers t.answers;
        moves = moves_settled a b c held more last _ (moves_held a b held left more _ _ s.answered.moves t.grows) w;
      };
    }

    -- of the answers that are held a beginning is sent
    pub breaks_off : (start mid now : M) (all bytes : List ℕ) (at to : ℕ) (a b c : Option (List ℕ))
        (held left more : List ℕ) → AnswersFront (Answers start) mid all (drop at bytes) a b held left
        → AnswersSome (Answers mid) now bytes at to left more → AppendsPart b c more
        → AnswersPart (Answers start) all a c held
    breaks_off start mid now all bytes at to a b c held left more s t w = record {
      part = s.part ++ t.part;
      rest = drop to bytes;
      are = s.are ∙ ap (λ l. s.part ++ l) t.are ∙ sym (append_assoc s.part t.part (drop to bytes));
      now = now;
      text = s.answered.text ++ t.text;
      answers = joins start mid now s.part t.part s.answered.text t.text s.answered.answers t.answers;
      part_sent = part_moved a b c held more _ (moves_held a b held left more _ _ s.answered.moves t.grows) w;
    }

  pub stops : (start mid : M) (all rest : List ℕ) (a b : Option (List ℕ)) (held left : List ℕ)
      → AnswersFront (Answers start) mid all rest a b held left → AnswersPart (Answers start) all a b held
  stops start mid all rest a b held left s = record {
    part = s.part;
    rest = rest;
    are = s.are;
    now = mid;
    text = s.answered.text;
    answers = s.answered.answers;
    part_sent = part_still a b held left _ s.answered.moves;
  }

  pub all_answered : (start now : M) (all bytes : List ℕ) (at : ℕ) (a b : Option (List ℕ)) (held left : List ℕ)
      → length bytes ≤ at → AnswersFront (Answers start) now all (drop at bytes) a b held left
      → AnswersBatch (Answers start) now all a b held left
  all_answered start now all bytes at a b held left e s =
      subst (λ l. AnswersBatch (Answers start) now l a b held left)
      (sym (s.are ∙ ap (λ l. s.part ++ l) (none_after at bytes e) ∙ append-nil s.part)) s.answered
