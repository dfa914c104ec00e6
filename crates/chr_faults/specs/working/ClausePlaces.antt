-- Where the clauses of a text stand.
use Rattle.std.specs.Prelude.{ℕ, ◌+◌, ◌-◌, List, [], ◌∷◌, Bool, not, take, if◌then◌else◌, ◌==◌}
use Rattle.std.specs.List.{prefix_len}
use Rattle.chr_syntax.specs.Bytes.{is_stop}

-- how many bytes there are up to so many full stops, or at all where there are fewer
abbrev pub after_stops : ℕ → List ℕ → ℕ
after_stops stops [] = 0
after_stops stops (b ∷ bs) =
    if stops == 0 then 0 else 1 + after_stops (if is_stop b then stops - 1 else stops) bs

abbrev pub is_in_clause : ℕ → Bool
is_in_clause b = not (is_stop b)

-- what stands before the next full stop
abbrev pub first_clause : List ℕ → List ℕ
first_clause bytes = take (prefix_len is_in_clause bytes) bytes
