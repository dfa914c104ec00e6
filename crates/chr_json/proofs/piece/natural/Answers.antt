use Rattle.std.proofs.Common.{◌≡◌, ◌++◌, ◌<◌, ◌≤◌, ◌-◌, decimal, drop, get_or, length, take, refl, sym, ap, ◌∙◌, subst}
use Rattle.std.proofs.Common.{arith}
use Rattle.std.specs.Prelude.{IfOk}
use Rattle.std.proofs.lemmas.Fmt.{decimal_digit}
use Rattle.chr_json.proofs.Lists.{first_and_rest}
use Rattle.chr_json.proofs.Pieces.{digit_first}
use Rattle.chr_json.proofs.piece.natural.Goals as goal

pub returns-in-48 : goal.returns-in-48
returns-in-48 c =
    let text = c.args.text.now in
    let zero : get_or text 0 0 ≡ 48 = omega arith in
    let rest = take (length text - 1) (drop 1 text) in
    first_and_rest text 48 (omega arith) zero ∙ ap (λ l. l ++ rest) (sym (decimal_digit 0 (omega arith)))

-- the first digit is the number so far
pub returns-in-49-to-57 : goal.returns-in-49-to-57
returns-in-49-to-57 c =
    let text = c.args.text.now in
    let digit = get_or text 0 0 in
    let rest = take (length text - 1) (drop 1 text) in
    let low : 48 ≤ digit = omega arith in
    let high : digit < 58 = omega arith in
    let whole : text ≡ decimal c.from.result ++ rest =
    first_and_rest text digit (omega arith) refl ∙ digit_first digit rest low high
    ∙ ap (λ n. decimal n ++ rest) (sym c.from.ensures) in
    subst (λ l. IfOk c.with_digits.result (λ r. l ≡ decimal r.0 ++ r.1.now)) (sym whole) c.with_digits.ensures
