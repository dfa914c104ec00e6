use Rattle.std.proofs.Common.{◌≡◌, ◌+◌, ◌++◌, ◌<◌, ◌^◌, decimal, drop}
use Rattle.chr_json.proofs.piece.with_digits.Given as goal

abbrev pub invariant-loop-place : goal.invariant-loop-place
invariant-loop-place l =
    (0 < l.value) × (l.value < 10 ^ (l.place + 1)) × (decimal l.fn.first ++ l.text ≡ decimal l.value
    ++ drop l.place l.text)
