use Rattle.std.proofs.Common.{◌≡◌, map, take}
use Rattle.chr_sorting.specs.working.Weaving.{each_once, firsts}
use Rattle.chr_sorting.proofs.weave.beginnings.Given as goal

abbrev pub invariant-loop-list : goal.invariant-loop-list
invariant-loop-list l = l.found.items ≡ each_once (firsts (map (λ l. l.items) (take l.list-index l.lists)))
