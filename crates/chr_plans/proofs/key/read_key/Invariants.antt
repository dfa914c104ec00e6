use Rattle.std.proofs.Common.{◌≡◌, map, take}
use Rattle.chr_plans.specs.Keys.{source_value}
use Rattle.chr_plans.proofs.key.read_key.Given as goal

abbrev pub invariant-loop-part : goal.invariant-loop-part
invariant-loop-part l = l.values.items ≡ map (λ k. source_value l.heads k.source) (take l.part-index l.key.items)
