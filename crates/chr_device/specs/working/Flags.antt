-- The options without a value among what a parse found.
use Rattle.std.specs.Prelude.{ℕ, Bool, List, Option, codes, option_and_then}
use Rattle.clap.specs.Words.{Row, first_of}
use Rattle.chr_device.specs.Words.{is_word_text}
use Rattle.chr_device.specs.declared.words.Style.{Style}

-- whether the rows of a command that was met have this option
abbrev pub has_flag_in : List ℕ → Option (List ℕ × List Row) → Bool
has_flag_in name met = is_word_text (codes "true") (option_and_then (λ p. first_of name p.1) met)

-- whether sorted cases were asked for
abbrev pub wide_in : Option (List ℕ × List Row) → Bool
wide_in met = has_flag_in (codes "wide") met

-- how an explanation is to be written
abbrev pub style_in : Option (List ℕ × List Row) → Style
style_in met = record {
  dot = has_flag_in (codes "dot") met;
  html = has_flag_in (codes "html") met;
  all = has_flag_in (codes "all") met;
}
