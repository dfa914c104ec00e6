use Rattle.std.proofs.Common.{◌≡◌, map, take}
use Rattle.chr_sorting.specs.working.Weaving.{held}
use Rattle.chr_sorting.proofs.weave.lists_held.Given as goal

abbrev pub invariant-loop-one : goal.invariant-loop-one
invariant-loop-one l = map (λ l. l.items) l.found ≡ held (take l.one-index l.all) l.sort
