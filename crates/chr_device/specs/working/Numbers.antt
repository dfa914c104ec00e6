-- The numbers that are read from what a parse found.
use Rattle.std.specs.Prelude.{◌≡◌, ◌<◌, ◌^◌, ℕ, List, Option, Some, None, option_and_then}
use Rattle.std.specs.Str.Parse.{IsNumeral, without_leading_plus}
use Rattle.clap.specs.Words.{Row, one_of}
use Rattle.chr_device.specs.Words.{decimal_value}

-- the text of an option among the rows of a command that was met
abbrev pub text_in : List ℕ → Option (List ℕ × List Row) → Option (List ℕ)
text_in name = option_and_then (λ p. one_of name p.1)

-- the number is the text's, where that is one of 32 bits, and 1 where there is no text
abbrev pub IsReadFrom : Option (List ℕ) → ℕ → Type 0
IsReadFrom None n = n ≡ 1
IsReadFrom (Some text) n =
    IsNumeral 10 (without_leading_plus text) → decimal_value text < 2 ^ 32 → n ≡ decimal_value text
