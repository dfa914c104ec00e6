use Rattle.std.proofs.Common.{◌≡◌, map, take}
use Rattle.chr_sorting.proofs.lists.representatives.Given as goal

abbrev pub invariant-loop-one : goal.invariant-loop-one
invariant-loop-one l = map (λ ls. ls.items) l.lists.items ≡ take l.one-index l.types
