-- Beginnings of an input, with or without its divider.
use Rattle.std.specs.Prelude.{◌≡◌, ℕ, true, List, ◌++◌}
use Rattle.chr_answers.specs.Lines.{lines}
use Rattle.chr_report.specs.Inputs.{text_of, commands_of}
use Rattle.chr_answers.specs.Lines.{AreWholeLines, HasNoFeed}
use Rattle.chr_report.specs.Served.{has_divider}

-- whole lines of program text: what comes after them goes on with it
pub record AreText (front : List ℕ) : Type 0 where
  pub whole : AreWholeLines front
  pub divider : (more : List ℕ) → has_divider (front ++ more) ≡ has_divider more
  pub text : (more : List ℕ) → text_of (lines (front ++ more)) ≡ front ++ text_of (lines more)
  pub commands : (more : List ℕ) → commands_of (lines (front ++ more)) ≡ commands_of (lines more)

-- whole lines of program text, and a line that has begun
pub record IsUndivided (bytes : List ℕ) : Type 0 where
  pub front : List ℕ
  pub line : List ℕ
  pub are : bytes ≡ front ++ line
  pub begins : AreText front
  pub unended : HasNoFeed line

-- whole lines end with the first divider: what comes after them are commands
pub record Divides (text front : List ℕ) : Type 0 where
  pub whole : AreWholeLines front
  pub divider : (more : List ℕ) → has_divider (front ++ more) ≡ true
  pub text_is : (more : List ℕ) → text_of (lines (front ++ more)) ≡ text
  pub commands : (more : List ℕ) → commands_of (lines (front ++ more)) ≡ lines more

-- the text before the first divider that has ended, and what comes after that
pub record IsDivided (bytes text rest : List ℕ) : Type 0 where
  pub front : List ℕ
  pub are : bytes ≡ front ++ rest
  pub divides : Divides text front
