-- An option without a value, as it is read from what a parse found.
use Rattle.std.proofs.Common.{◌≡◌, ◌∙◌, ℕ, Bool, List, Option, Some, None, refl, sym, ap}
use Rattle.std.specs.Borrow.{Bor}
use Rattle.std.specs.Prelude.{option_map, option_and_then}
use Rattle.std.specs.Option.{option_eq}
use Rattle.std.specs.Str.{bytes_eq}
use Rattle.clap.specs.Matches.{first_value}
use Rattle.clap.specs.Walk.{Row, first_of, rows_of}
use Rattle.clap.specs.declared.parser.matches.Found.{Found}
use Rattle.clap.proofs.WalkLemmas.{first_value-rows}
use Rattle.chr_device.specs.Words.{is_word_text}

-- the text of the command that was met
pub first_met : (name : List ℕ) (met : Option (List ℕ × List Row)) (f : Found) → Some (rows_of f)
    ≡ option_map (λ p. p.1) met
    → option_and_then (λ p. first_of name p.1) met ≡ first_value f name
first_met name None f is = cc
first_met name (Some p) f is = ap (λ x. option_and_then (first_of name) x) (sym is) ∙ sym (first_value-rows f name)

module _ (equals : Bor (List ℕ) → Bor (List ℕ) → Bool)
    (by_bytes : (a b : Bor (List ℕ)) → equals a b ≡ bytes_eq a.now b.now) where
  -- a text that is compared with another one
  pub compared : (text : Bor (List ℕ)) (found : Option (Bor (List ℕ))) → option_eq equals found (Some text)
      ≡ is_word_text text.now (option_map (λ s. s.now) found)
  compared text None = refl
  compared text (Some t) = by_bytes t text
