-- Blocks of lines that wait while those before them are answered.
use Rattle.std.specs.Prelude.{◌≡◌, ℕ, List, [], ◌∷◌, ◌++◌, All, map, Option, string_bytes}
use Rattle.std.specs.Arc.{arc_value}
use Rattle.std.specs.Bool.{OnTrue}
use Rattle.std.specs.Io.KnownBytes.{IsAtEnd}
use Rattle.chr_base.specs.declared.program.Program.{Program}
use Rattle.chr_base.specs.Programs.{declarations, rules_of}
use Rattle.chr_device.specs.Devices.{ReadsOn}
use Rattle.chr_ops.specs.Operations.{Operations}
use Rattle.chr_report.specs.declared.block.Block.{Block}
use Rattle.chr_report.specs.declared.blocks.Blocks.{Blocks}
use Rattle.chr_answers.specs.Lines.{AreWholeLines}
use Rattle.chr_report.specs.working.BlockLines.{lines_of}
use Rattle.chr_report.specs.working.Continuing.{AnswersUpTo}
use Rattle.chr_answers.specs.Services.{held, served, IsBetweenLines}
use Rattle.chr_answers.specs.Answered.{AnswersFront}

-- the lines of blocks, one after another
abbrev pub lines_of_all : List Block → List ℕ
lines_of_all [] = []
lines_of_all (b ∷ bs) = lines_of b ++ lines_of_all bs

abbrev pub blocks_of : Blocks → List Block
blocks_of s = map (λ b. arc_value b) s.blocks.items

-- what was read and is not answered
abbrev pub left_of : Blocks → List ℕ
left_of s = lines_of_all (blocks_of s) ++ s.begun.items

-- the lines of the blocks that wait are whole
abbrev pub AreWhole : Blocks → Type 0
AreWhole s = All (λ b. AreWholeLines (lines_of b)) (blocks_of s)

-- blocks are read on, and nothing is answered meanwhile
pub record ReadsBlocks (from to : Option (List ℕ)) (s t : Blocks) : Type 0 where
  pub at : t.at ≡ s.at
  pub read : ReadsOn from to (left_of s) (left_of t)
  pub whole : AreWhole s → AreWhole t
  pub end : OnTrue s.ended (IsAtEnd from) → OnTrue t.ended (IsAtEnd to)

-- the lines of the first block are answered
pub record AnswersFirst (s t : Blocks) : Type 0 where
  pub ready : IsBetweenLines t.at.service
  pub program : served t.at.service ≡ served s.at.service
  pub front : List ℕ
  pub out : List ℕ
  pub are : left_of s ≡ front ++ left_of t
  pub answers : AnswersFront (declarations (served s.at.service)) (rules_of (served s.at.service)) front
      (held s.at.service) out (held t.at.service)
  pub written : string_bytes t.at.out ≡ string_bytes s.at.out ++ out
  pub whole : AreWhole t
  pub ended : t.ended ≡ s.ended

-- Of the first bytes and those that were read after them some are answered, by replicas that are ready for a line. The
-- others are left.
pub record IsInBlocks (p : Program) (first : List ℕ) (from to : Option (List ℕ)) (start : List Operations)
    (before : List ℕ) (s : Blocks) : Type 0 where
  pub ready : IsBetweenLines s.at.service
  pub program : served s.at.service ≡ p
  pub whole : AreWhole s
  pub answered : AnswersUpTo (declarations p) (rules_of p) first from to (left_of s) start (held s.at.service) before
      (string_bytes s.at.out)
  pub end : OnTrue s.ended (IsAtEnd to)
