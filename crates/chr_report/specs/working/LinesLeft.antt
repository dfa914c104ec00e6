-- Lines that are left of an input, where any are.
use Rattle.std.specs.Prelude.{ℕ, List, [], Option, Some, None}
use Rattle.std.specs.Borrow.{Bor}
use Rattle.chr_answers.specs.Lines.{lines}

-- the lines of what is left of an input, none where nothing is left
abbrev pub lines_left : Option (Bor (List ℕ)) → List (List ℕ)
lines_left None = []
lines_left (Some s) = lines s.now
