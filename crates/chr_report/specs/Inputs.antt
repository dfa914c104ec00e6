-- An input: program text, and after the first line `---` commands.
use Rattle.std.specs.Prelude.{ℕ, List, [], ◌∷◌, ◌++◌, Bool, if◌then◌else◌, codes}
use Rattle.std.specs.Str.{bytes_eq}
use Rattle.std.specs.List.{after_first}
use Rattle.chr_answers.specs.Lines.{without_return}

abbrev pub is_divider : List ℕ → Bool
is_divider line = bytes_eq (without_return line) (codes "---")

-- the program text: all bytes before the first divider
abbrev pub text_of : List (List ℕ) → List ℕ
text_of [] = []
text_of (l ∷ []) = if is_divider l then [] else l
text_of (l ∷ m ∷ ls) = if is_divider l then [] else l ++ 10 ∷ text_of (m ∷ ls)

-- the lines after the first divider, none where there is none
abbrev pub commands_of : List (List ℕ) → List (List ℕ)
commands_of ls = after_first is_divider ls
