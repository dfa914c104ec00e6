use Rattle.std.proofs.Common.{◌≡◌, ◌++◌, drop}
use Rattle.std.specs.Prelude.{codes, string_bytes}
use Rattle.std.specs.Fmt.{signed_decimal}
use Rattle.std.specs.List.{flat_map}
use Rattle.chr_base.proofs.text.push_more_values.Given as goal

abbrev pub invariant-loop-value : goal.invariant-loop-value
invariant-loop-value l = string_bytes l.out ++ flat_map (λ z. codes "," ++ signed_decimal z)
    (drop l.value-index l.values) ≡ string_bytes l.fn.out ++ flat_map (λ z. codes "," ++ signed_decimal z) l.values
