-- What is written of an input that is read piece by piece.
use Rattle.std.specs.Prelude.{ℕ, Bool, List, [], ◌++◌, Option, Some}
use Rattle.std.specs.Bool.{MatchBool}
use Rattle.std.specs.List.{list_any}
use Rattle.std.specs.Io.KnownBytes.{Appends, Consumes}
use Rattle.chr_answers.specs.Lines.{AreWholeLines, HasNoFeed, lines}
use Rattle.chr_device.specs.declared.words.Verb.TheVariants.{Run}
use Rattle.chr_report.specs.declared.running.Status.{Status}
use Rattle.chr_report.specs.declared.wanted.Wanted.{Wanted}
use Rattle.chr_report.specs.Inputs.{is_divider}
use Rattle.chr_report.specs.Written.{WritesOutput}

-- whether the program text ends within the bytes
abbrev pub has_divider : List ℕ → Bool
has_divider bytes = list_any is_divider (lines bytes)

-- what is written is all that is due for whole lines: nothing before the program text has ended, and then their output
abbrev pub WritesDue : List ℕ → Option (List ℕ) → Option (List ℕ) → Wanted → Type 0
WritesDue front old new wanted =
    MatchBool (has_divider front) ((status : Status) × WritesOutput (Some front) old new Run wanted status)
    (Appends old new [])

-- Of the bytes that were read `front` are whole lines, for which all is written that is due. After them a line may have
-- begun.
pub record AllAnswered (from to old new : Option (List ℕ)) (wanted : Wanted) : Type 0 where
  pub front : List ℕ
  pub line : List ℕ
  pub read : Consumes from to (front ++ line)
  pub whole : AreWholeLines front
  pub unended : HasNoFeed line
  pub written : WritesDue front old new wanted
