-- The line of a text in which a byte stands.
use Rattle.std.specs.Prelude.{ℕ, ◌-◌, ◌+◌, List, Bool, take, drop, ◌==◌, not}
use Rattle.std.specs.List.{prefix_len}
use Rattle.chr_faults.specs.Places.{since}

abbrev pub is_within_line : ℕ → Bool
is_within_line b = not (b == 10)

-- where the line begins: after the last line feed before the byte
abbrev pub line_start : List ℕ → ℕ → ℕ
line_start text at = at - since 0 (take at text)

-- where it ends: before the next line feed
abbrev pub line_end : List ℕ → ℕ → ℕ
line_end text at = at + prefix_len is_within_line (drop at text)
