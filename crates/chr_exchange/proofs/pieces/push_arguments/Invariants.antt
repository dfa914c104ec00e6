use Rattle.std.proofs.Common.{◌≡◌, ◌∷◌, ◌++◌, drop, flat_map, string_bytes}
use Rattle.std.specs.Fmt.{signed_decimal}
use Rattle.chr_exchange.proofs.pieces.push_arguments.Given as goal

abbrev pub invariant-loop-value : goal.invariant-loop-value
invariant-loop-value l =
    string_bytes l.out ++ flat_map (λ z. 44 ∷ signed_decimal z) (drop l.value-index l.values)
    ≡ string_bytes l.fn.out ++ flat_map (λ z. 44 ∷ signed_decimal z) l.values
