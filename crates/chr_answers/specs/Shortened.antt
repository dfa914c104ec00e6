-- A beginning of a line that stands for another one.
use Rattle.std.specs.Prelude.{◌≡◌, ℕ, List, ◌++◌}
use Rattle.chr_json.specs.Lines.{is_blank_line}
use Rattle.chr_json.specs.Reads.{line_said}
use Rattle.chr_answers.specs.Lines.{without_return}

-- both lines are blank or neither is, and both say the same
abbrev pub AreAlike : List ℕ → List ℕ → Type 0
AreAlike a b = (is_blank_line a ≡ is_blank_line b) × (line_said a ≡ line_said b)

-- however the line goes on, it is answered as if it had begun with `whole`
abbrev pub StandsFor : List ℕ → List ℕ → Type 0
StandsFor cut whole = (rest : List ℕ) → AreAlike (without_return (cut ++ rest)) (without_return (whole ++ rest))
