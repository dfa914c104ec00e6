-- A law of lines.
use Rattle.std.specs.Prelude.{◌≡◌, ℕ, List}
use Rattle.std.specs.List.{join_with_byte}
use Rattle.chr_answers.specs.Lines.{lines}

-- the lines, joined by line feeds, are the input
abbrev pub LinesAreTheInput : Type 0
LinesAreTheInput = (input : List ℕ) → join_with_byte 10 (lines input) ≡ input
