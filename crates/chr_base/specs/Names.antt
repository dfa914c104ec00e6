-- The names of symbols and rules: a lower-case letter, then letters, digits and underscores, and no reserved word.
use Rattle.std.specs.Prelude.{ℕ, List, [], ◌∷◌, length, Bool, true, false, not, ◌&&◌, ◌||◌, ◌==◌, nat_le, Option, Some}
use Rattle.std.specs.Prelude.{None, codes}
use Rattle.std.specs.List.{list_all}
use Rattle.std.specs.Str.{bytes_eq}
use Rattle.chr_base.specs.declared.limits.TheConstants.{MAX_NAME}

abbrev pub is_lower : ℕ → Bool
is_lower b = nat_le 97 b && nat_le b 122

abbrev pub is_upper : ℕ → Bool
is_upper b = nat_le 65 b && nat_le b 90

abbrev pub is_digit : ℕ → Bool
is_digit b = nat_le 48 b && nat_le b 57

-- what may follow the first letter: 95 is the underscore
abbrev pub is_word_byte : ℕ → Bool
is_word_byte b = is_lower b || (is_upper b || (is_digit b || (b == 95)))

abbrev pub is_word : List ℕ → Bool
is_word [] = false
is_word (b ∷ bs) = is_lower b && list_all is_word_byte bs

abbrev pub is_reserved : List ℕ → Bool
is_reserved w = bytes_eq w (codes "true") || (bytes_eq w (codes "fail") || bytes_eq w (codes "false"))

abbrev pub is_name : List ℕ → Bool
is_name w = is_word w && not (is_reserved w)

-- a name of at most MAX_NAME bytes, where there is one
abbrev pub is_label : Option (List ℕ) → Bool
is_label None = true
is_label (Some w) = is_name w && nat_le (length w) MAX_NAME
