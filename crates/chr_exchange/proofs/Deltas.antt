-- The texts of deltas, from the texts of their parts.
use Rattle.std.proofs.Common.{◌≡◌, ℕ, List, [], ◌∷◌, ◌++◌, map, refl, sym, ap, ◌∙◌, append_assoc, arith}
use Rattle.std.specs.Prelude.{codes}
use Rattle.std.specs.Borrow.{Bor}
use Rattle.std.proofs.lemmas.Fmt.{decimal_digit}
use Rattle.serde_json.specs.Written.{compact_text}
use Rattle.chr_base.specs.ProgramTests.{Declaration}
use Rattle.chr_json.specs.Deltas.{NamedOperation}
use Rattle.chr_json.specs.Messages.{grouped_data, numbered_data, delta_2_data}
use Rattle.chr_ops.specs.Operations.{Operation}
use Rattle.chr_exchange.specs.Texts.{spelt}

-- operations that are lent are spelt as they are
pub spelt_lent : (ds : List Declaration) (xs : List (Bor Operation)) (os : List Operation) → map (λ o. o.now) xs ≡ os
    → map (λ o. spelt ds o.now) xs ≡ map (spelt ds) os
spelt_lent ds xs os is = twice xs ∙ ap (map (spelt ds)) is
  where
    twice : (ys : List (Bor Operation)) → map (λ o. spelt ds o.now) ys ≡ map (spelt ds) (map (λ o. o.now) ys)
    twice [] = refl
    twice (y ∷ ys) = ap (λ l. spelt ds y.now ∷ l) (twice ys)

-- the text of a delta of version 2 is written from its parts
pub delta_2_written : (os ps : List NamedOperation) (none start middle new : List ℕ) → ps ≡ os → none ≡ []
    → start ≡ none ++ codes "[2," → middle ≡ start ++ compact_text (grouped_data (λ o. o.id.origin) numbered_data ps)
    → new ≡ middle ++ codes "]"
    → new ≡ compact_text (delta_2_data os)
delta_2_written os ps none start middle new same h0 h1 h2 h3 =
    let grouped = compact_text (grouped_data (λ o. o.id.origin) numbered_data ps) in
    let whole : new ≡ codes "[2," ++ (grouped ++ codes "]") =
    rw (h3, h2, h1, h0) (append_assoc (codes "[2,") grouped (codes "]")) in
    whole
    ∙ ap (λ d. 91 ∷ (d ++ (44 ∷ (grouped ++ 93 ∷ [])))) (sym (decimal_digit 2 (omega arith)))
    ∙ ap (λ l. compact_text (delta_2_data l)) same
