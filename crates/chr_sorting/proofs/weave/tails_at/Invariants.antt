use Rattle.std.proofs.Common.{◌≡◌, map, take}
use Rattle.chr_sorting.specs.working.Weaving.{tails}
use Rattle.chr_sorting.proofs.weave.tails_at.Given as goal

abbrev pub invariant-loop-list : goal.invariant-loop-list
invariant-loop-list l = map (λ l. l.items) l.found.items
    ≡ tails l.value (map (λ l. l.items) (take l.list-index l.lists))
