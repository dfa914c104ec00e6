-- Lines as bytes.
use Rattle.std.specs.Prelude.{ℕ, List, Bool, length, ◌==◌, ◌||◌, nat_le}
use Rattle.std.specs.List.{list_all}
use Rattle.chr_json.specs.declared.limits.TheConstants.{MAX_LINE}

-- spaces and tabs alone, or nothing
abbrev pub is_blank_line : List ℕ → Bool
is_blank_line line = list_all (λ b. b == 32 || b == 9) line

-- the line has at most as many bytes as a line may have
abbrev pub has_line_length : List ℕ → Bool
has_line_length line = nat_le (length line) MAX_LINE
