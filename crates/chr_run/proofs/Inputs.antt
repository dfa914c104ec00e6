-- What a source gives, batch by batch.
use Rattle.std.proofs.Common.{◌≡◌, ℕ, List, [], ◌++◌, refl, sym, ap, ◌∙◌, append_assoc, append-nil, subst}
use mathlib.Core.Bool.{true≢false}
use Rattle.std.specs.Prelude.{Bool, true, false, Option, None, Some, IfSome, Result, Ok, Err, OnOk, OnErr}
use Rattle.std.specs.Bool.{OnFalse}
use Rattle.std.specs.Io.KnownBytes.{Consumes, IsAtEnd, prepend_known}
use Rattle.std.proofs.KnownBytes.{Consumes-nil, Consumes-trans, Consumes-all}
use Rattle.chr_device.specs.Devices.{AppendsPart}
use Rattle.chr_run.specs.Answered.{AnswersInput, HasAnswered, Moves}
use Rattle.chr_run.specs.working.Batches.{AnswersBatch, AnswersPart}
use Rattle.chr_run.proofs.Moving.{moves_held, moves_on, moves_settled, part_moved, part_more, part_still}

some_left : (from to : Option (List ℕ)) (bytes : List ℕ) → Consumes from to bytes → (left : List ℕ)
    × IfSome from (λ all. bytes ++ left ≡ all)
some_left None to bytes c = ([], tt)
some_left (Some x) None bytes c = absurd c
some_left (Some x) (Some y) bytes c = (y, sym c)

-- a peer that has kept what it has to give, and what it was sent
pub has_kept : {M : Type 0} (Answers : List ℕ → List ℕ → M → Type 0) (now : M) (first : List ℕ)
    (from u v old a b : Option (List ℕ)) (begun held left : List ℕ)
    → HasAnswered Answers now first from (prepend_known begun u) old a held left → v ≡ u → b ≡ a
    → HasAnswered Answers now first from (prepend_known begun v) old b held left
has_kept Answers now first from u v old a b begun held left s e f =
    subst (λ w. HasAnswered Answers now first from (prepend_known begun w) old b held left) (sym e)
    (subst (λ w. HasAnswered Answers now first from (prepend_known begun u) old w held left) (sym f) s)

pub if_false : {P : Type 0} (b : Bool) → b ≡ false → OnFalse b P → P
if_false true e p = absurd (true≢false e)
if_false false e p = p

pub if_ok : {A E P Q : Type 0} (r : Result A E) → (P → Q) → OnOk r P → OnOk r Q
if_ok (Ok x) f p = f p
if_ok (Err e) f p = tt

pub if_err : {A E P Q : Type 0} (r : Result A E) → (P → Q) → OnErr r P → OnErr r Q
if_err (Ok x) f p = tt
if_err (Err e) f p = f p

module _ {M : Type 0} (Answers : M → List ℕ → List ℕ → M → Type 0) where
  -- the first bytes
  pub begins : (start now : M) (first : List ℕ) (known old new : Option (List ℕ)) (held left : List ℕ)
      → AnswersBatch (Answers start) now first old new held left
      → HasAnswered (Answers start) now first known known old new held left
  begins start now first known old new held left a = record {
    bytes = [];
    given = Consumes-nil known;
    text = a.text;
    answers = subst (λ l. Answers start l a.text now) (sym (append-nil first)) a.answers;
    moves = a.moves;
  }

  pub settles : (start now : M) (first : List ℕ) (from to old a b : Option (List ℕ)) (held left last : List ℕ)
      → HasAnswered (Answers start) now first from to old a held left → Moves a b left last []
      → HasAnswered (Answers start) now first from to old b held last
  settles start now first from to old a b held left last s w = record {
    bytes = s.bytes;
    given = s.given;
    text = s.text;
    answers = s.answers;
    moves = moves_settled old a b held left last _ s.moves w;
  }

  module _ (joins : (a b c : M) (front rest x y : List ℕ) → Answers a front x b → Answers b rest y c
      → Answers a (front ++ rest) (x ++ y) c) where
    pub goes_on : (start mid now : M) (first : List ℕ) (from to next old a b : Option (List ℕ))
        (batch held left last : List ℕ) → HasAnswered (Answers start) mid first from to old a held left
        → Consumes to next batch → AnswersBatch (Answers mid) now batch a b left last
        → HasAnswered (Answers start) now first from next old b held last
    goes_on start mid now first from to next old a b batch held left last s c t = record {
      bytes = s.bytes ++ batch;
      given = Consumes-trans from to next _ _ s.given c;
      text = s.text ++ t.text;
      answers = subst (λ l. Answers start l (s.text ++ t.text) now) (append_assoc first s.bytes batch)
          (joins start mid now (first ++ s.bytes) batch _ _ s.answers t.answers);
      moves = moves_on old a b held left last _ _ s.moves t.moves;
    }

  module _ (Finishes : M → List ℕ → List ℕ → M → Type 0) (ends : (a b c : M) (front rest x y : List ℕ)
      → Answers a front x b → Finishes b rest y c → Finishes a (front ++ rest) (x ++ y) c) where
    -- whatever comes is not answered
    pub is_left : (start now : M) → ((rest : List ℕ) → Finishes now rest [] now) → (first : List ℕ)
        (from to old new : Option (List ℕ)) (held left : List ℕ)
        → HasAnswered (Answers start) now first from to old new held left
        → AnswersInput (λ input text. Finishes start input text now) first from (Moves old new held left)
    is_left start now done first from to old new held left s =
        let rest = some_left from to s.bytes s.given in
        record {
          input = s.bytes ++ rest.0;
          is_read = rest.1;
          text = s.text ++ [];
          answers = subst (λ l. Finishes start l (s.text ++ []) now) (append_assoc first s.bytes rest.0)
              (ends start now now (first ++ s.bytes) rest.0 s.text [] s.answers (done rest.0));
          is_written = subst (Moves old new held left) (sym (append-nil s.text)) s.moves;
        }

    -- the end of the bytes, and what is answered there
    pub ended : (start mid now : M) (first : List ℕ) (from to old a b : Option (List ℕ))
        (held left more last : List ℕ) → HasAnswered (Answers start) mid first from to old a held left → IsAtEnd to
        → ((text : List ℕ) × Finishes mid [] text now × (more ≡ left ++ text)) → Moves a b more last []
        → AnswersInput (λ input text. Finishes start input text now) first from (Moves old b held last)
    ended start mid now first from to old a b held left more last s e t w = record {
      input = s.bytes ++ [];
      is_read = Consumes-all from to s.bytes [] (s.bytes ++ []) s.given e (append-nil s.bytes);
      text = s.text ++ t.0;
      answers = subst (λ l. Finishes start l (s.text ++ t.0) now) (append_assoc first s.bytes [])
          (ends start mid now (first ++ s.bytes) [] _ _ s.answers t.1);
      is_written = moves_settled old a b held more last _ (moves_held old a held left more _ _ s.moves t.2) w;
    }

    pub ended_part : (AnswersAll : M → List ℕ → List ℕ → Type 0) → ((a b : M) (bytes text : List ℕ)
        → Finishes a bytes text b → AnswersAll a bytes text) → (start mid now : M) (first : List ℕ)
        (from to old a b : Option (List ℕ)) (held left more : List ℕ)
        → HasAnswered (Answers start) mid first from to old a held left → IsAtEnd to
        → ((text : List ℕ) × Finishes mid [] text now × (more ≡ left ++ text)) → AppendsPart a b more
        → AnswersInput (AnswersAll start) first from (λ text. AppendsPart old b (held ++ text))
    ended_part AnswersAll all start mid now first from to old a b held left more s e t w = record {
      input = s.bytes ++ [];
      is_read = Consumes-all from to s.bytes [] (s.bytes ++ []) s.given e (append-nil s.bytes);
      text = s.text ++ t.0;
      answers = all start now _ _ (subst (λ l. Finishes start l (s.text ++ t.0) now) (append_assoc first s.bytes [])
          (ends start mid now (first ++ s.bytes) [] _ _ s.answers t.1));
      is_written = part_moved old a b held more _ (moves_held old a held left more _ _ s.moves t.2) w;
    }

  module _ (AnswersAll : M → List ℕ → List ℕ → Type 0) (goes : (a b : M) (front rest x y : List ℕ)
      → Answers a front x b → AnswersAll b rest y → AnswersAll a (front ++ rest) (x ++ y))
      (exists : (m : M) (bytes : List ℕ) → (text : List ℕ) × AnswersAll m bytes text) where
    -- what comes after the bytes that are answered has answers too
    any_end : (start mid : M) (first : List ℕ) (from to old new : Option (List ℕ)) (bytes part rest held out : List ℕ)
        → Consumes from to bytes → first ++ bytes ≡ part ++ rest → Answers start part out mid
        → AppendsPart old new (held ++ out)
        → AnswersInput (AnswersAll start) first from (λ text. AppendsPart old new (held ++ text))
    any_end start mid first from to old new bytes part rest held out c e a w =
        let left = some_left from to bytes c in
        let tail = exists mid (rest ++ left.0) in
        record {
          input = bytes ++ left.0;
          is_read = left.1;
          text = out ++ tail.0;
          answers = subst (λ b. AnswersAll start b (out ++ tail.0))
              (sym (sym (append_assoc first bytes left.0) ∙ ap (λ b. b ++ left.0) e ∙ append_assoc part rest left.0))
              (goes start mid part (rest ++ left.0) out tail.0 a tail.1);
          is_written = part_more old new held out tail.0 w;
        }

    pub stops : (start mid : M) (first : List ℕ) (from to old a : Option (List ℕ)) (held left : List ℕ)
        → HasAnswered (Answers start) mid first from to old a held left
        → AnswersInput (AnswersAll start) first from (λ text. AppendsPart old a (held ++ text))
    stops start mid first from to old a held left s =
        any_end start mid first from to old a s.bytes (first ++ s.bytes) [] held s.text s.given
        (sym (append-nil (first ++ s.bytes))) s.answers (part_still old a held left _ s.moves)

    -- of what is held a beginning is sent
    pub cut_off : (start mid : M) (first : List ℕ) (from to old a b : Option (List ℕ)) (held left : List ℕ)
        → HasAnswered (Answers start) mid first from to old a held left → AppendsPart a b left
        → AnswersInput (AnswersAll start) first from (λ text. AppendsPart old b (held ++ text))
    cut_off start mid first from to old a b held left s w =
        any_end start mid first from to old b s.bytes (first ++ s.bytes) [] held s.text s.given
        (sym (append-nil (first ++ s.bytes))) s.answers (part_moved old a b held left _ s.moves w)

    -- some of the first bytes are answered
    pub breaks_first : (start : M) (first : List ℕ) (known old new : Option (List ℕ)) (held : List ℕ)
        → AnswersPart (Answers start) first old new held
        → AnswersInput (AnswersAll start) first known (λ text. AppendsPart old new (held ++ text))
    breaks_first start first known old new held p =
        any_end start p.now first known known old new [] p.part p.rest held p.text (Consumes-nil known)
        (append-nil first ∙ p.are) p.answers p.part_sent

    -- some of the next bytes are answered
    pub breaks_off : ((a b c : M) (front rest x y : List ℕ) → Answers a front x b → Answers b rest y c
        → Answers a (front ++ rest) (x ++ y) c) → (start mid : M) (first : List ℕ)
        (from to next old a b : Option (List ℕ)) (batch held left : List ℕ)
        → HasAnswered (Answers start) mid first from to old a held left
        → Consumes to next batch → AnswersPart (Answers mid) batch a b left
        → AnswersInput (AnswersAll start) first from (λ text. AppendsPart old b (held ++ text))
    breaks_off joins start mid first from to next old a b batch held left s c p =
        any_end start p.now first from next old b (s.bytes ++ batch) ((first ++ s.bytes) ++ p.part) p.rest held
        (s.text ++ p.text) (Consumes-trans from to next _ _ s.given c)
        (sym (append_assoc first s.bytes batch) ∙ ap (λ l. (first ++ s.bytes) ++ l) p.are
        ∙ sym (append_assoc (first ++ s.bytes) p.part p.rest))
        (joins start mid p.now (first ++ s.bytes) p.part _ _ s.answers p.answers)
        (subst (AppendsPart old b) (append_assoc held s.text p.text)
        (part_on old a b _ left p.text s.moves p.part_sent))
      where
        part_on : (old a b : Option (List ℕ)) (x left y : List ℕ) → Moves old a held left x
            → AppendsPart a b (left ++ y) → AppendsPart old b ((held ++ x) ++ y)
        part_on old a b x left y m w =
            subst (AppendsPart old b) (sym (append_assoc held x y))
            (part_moved old a b held (left ++ y) (x ++ y) (moves_held old a held left (left ++ y) x y m refl) w)
