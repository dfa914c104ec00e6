use Rattle.std.proofs.Common.{◌≡◌, ◌++◌, ◌+◌, ◌*◌, ◌-◌, ◌<◌, ◌≤◌, ◌^◌, decimal, drop, get_or, length, refl, sym, ap}
use Rattle.std.proofs.Common.{◌∙◌, arith}
use Rattle.chr_json.proofs.Pieces.{digits_more}
use Rattle.chr_json.proofs.piece.with_more_digits.Goals as goal

pub loop-place-preserved : goal.loop-place-preserved
loop-place-preserved c =
    let text = c.args.text.now in
    let place = c.loop-place.place in
    let digit = get_or text place 0 in
    let value = c.loop-place.value in
    let low : 48 ≤ digit = c.if-not-is_ascii_digit.ensures.cases.0 in
    let at_most : digit ≤ 57 = c.if-not-is_ascii_digit.ensures.cases.1 in
    let high : digit < 58 = omega arith in
    let more : c.in-Some-checked_add.more ≡ value * 10 + (digit - 48) =
    omega (arith, c.in-Some.ensures, c.in-Some-checked_add.ensures) in
    let fits : value * 10 + (digit - 48) < 2 ^ 64 = omega (arith, c.in-Some.ensures, c.in-Some-checked_add.ensures) in
    let within : place < length text = omega arith in (
      omega arith,
      c.loop-place.invariant.1 ∙ digits_more value digit text place within refl c.loop-place.invariant.0 low
          high fits ∙ ap (λ n. decimal n ++ drop (place + 1) text) (sym more),
    )
