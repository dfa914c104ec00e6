-- What a machine answers to the bytes that a source gives, and what a sink has done with it.
use Rattle.std.specs.Prelude.{◌≡◌, ℕ, List, ◌++◌, Bool, drop, length, ◌<◌, ◌≤◌, Option, IfSome}
use Rattle.std.specs.Bool.{OnFalse}
use Rattle.std.specs.Io.KnownBytes.{Appends, Consumes, IsAtEnd}

-- of a text that was held, and what was added to it, a beginning is sent, and the rest is held
pub record Moves (from to : Option (List ℕ)) (held left text : List ℕ) : Type 0 where
  pub sent : List ℕ
  pub is_sent : Appends from to sent
  pub are : held ++ text ≡ sent ++ left

-- of what a source has to give a batch is given; if no more may come it is all, and the peer has nothing left
pub record IsGiven (from to unread : Option (List ℕ)) (more : Bool) (batch : List ℕ) : Type 0 where
  pub given : Consumes from to batch
  pub all : OnFalse more (IsAtEnd to)
  pub end : OnFalse more (IsAtEnd unread)

-- the bytes from one place to another are answered, so that the text that was held has grown
pub record AnswersSome {M : Type 0} (Answers : List ℕ → List ℕ → M → Type 0) (now : M) (bytes : List ℕ) (at to : ℕ)
    (old new : List ℕ) : Type 0 where
  pub part : List ℕ
  pub are : drop at bytes ≡ part ++ drop to bytes
  pub text : List ℕ
  pub answers : Answers part text now
  pub grows : new ≡ old ++ text
  pub some : at < to
  pub within : to ≤ length bytes

-- The first bytes, and all that a source gave of what it had to give, are answered, and of the answers some are sent.
pub record HasAnswered {M : Type 0} (Answers : List ℕ → List ℕ → M → Type 0) (now : M) (first : List ℕ)
    (from to old new : Option (List ℕ)) (held left : List ℕ) : Type 0 where
  pub bytes : List ℕ
  pub given : Consumes from to bytes
  pub text : List ℕ
  pub answers : Answers (first ++ bytes) text now
  pub moves : Moves old new held left text

-- there is an answer to the first bytes and all that a source has to give, of which IsWritten holds
pub record AnswersInput (IsAnswered : List ℕ → List ℕ → Type 0) (first : List ℕ) (known : Option (List ℕ))
    (IsWritten : List ℕ → Type 0) : Type 0 where
  pub input : List ℕ
  pub is_read : IfSome known (λ all. input ≡ all)
  pub text : List ℕ
  pub answers : IsAnswered (first ++ input) text
  pub is_written : IsWritten text
