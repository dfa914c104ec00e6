use Rattle.std.proofs.Common.{◌≡◌, ◌+◌, ◌*◌, ◌-◌, ◌<◌, ◌≤◌, ◌^◌, get_or, length, refl, ◌∙◌, arith}
use Rattle.chr_json.proofs.Pieces.{digits_more, digit_bound, digit_room}
use Rattle.chr_json.proofs.piece.with_digits.Goals as goal

pub overflow_mul-value : goal.overflow_mul-value
overflow_mul-value c =
    let few : c.loop-place.place < 17 = omega arith in
    let room : c.loop-place.value * 10 + 9 < 2 ^ 63 = digit_room c.loop-place.value c.loop-place.place
    c.loop-place.invariant.1 few in
    omega (arith, room)

pub overflow_add-value : goal.overflow_add-value
overflow_add-value c =
    let few : c.loop-place.place < 17 = omega arith in
    let room : c.loop-place.value * 10 + 9 < 2 ^ 63 = digit_room c.loop-place.value c.loop-place.place
    c.loop-place.invariant.1 few in
    let at_most : get_or c.args.text.now c.loop-place.place 0 ≤ 57 = c.if-not-is_ascii_digit.ensures.cases.1 in
    omega (arith, room, c.from.ensures)

pub loop-place-preserved : goal.loop-place-preserved
loop-place-preserved c =
    let text = c.args.text.now in
    let place = c.loop-place.place in
    let digit = get_or text place 0 in
    let value = c.loop-place.value in
    let low : 48 ≤ digit = c.if-not-is_ascii_digit.ensures.cases.0 in
    let at_most : digit ≤ 57 = c.if-not-is_ascii_digit.ensures.cases.1 in
    let few : place < 17 = omega arith in
    let room : value * 10 + 9 < 2 ^ 63 = digit_room value place c.loop-place.invariant.1 few in
    let last : c.from.result ≡ digit - 48 = c.from.ensures in
    let fits : value * 10 + (digit - 48) < 2 ^ 64 = omega (arith, room) in
    let within : place < length text = omega arith in
    let high : digit < 58 = omega arith in (
      omega arith,
      rw last (digit_bound value digit place c.loop-place.invariant.1 low at_most),
      rw last (c.loop-place.invariant.2 ∙ digits_more value digit text place within refl c.loop-place.invariant.0 low
          high fits),
    )
