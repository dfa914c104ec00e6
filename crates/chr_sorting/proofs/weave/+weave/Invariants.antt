use Rattle.std.proofs.Common.{◌≡◌, take, false, length, ◌++◌, ◌∷◌, []}
use Rattle.std.specs.List.{flat_map}
use Rattle.chr_types.specs.Visits.{Visited}
use Rattle.chr_sorting.specs.working.Weaving.{begun, held, woven}
use Rattle.chr_sorting.proofs.weave.+weave.Given as goal

abbrev pub decreases-weave : goal.decreases-weave
decreases-weave g l = length l.classes.now

abbrev pub invariant-loop-value : goal.invariant-loop-value
invariant-loop-value g l = record {
  ready : g.V.Visit.ready l.visitor;
  same : l.all.items ≡ l.initial.all.items;
  visited : Visited g.V.Visit.step l.initial.visitor (flat_map
      (λ z. woven l.rest (begun l.sort z (held l.initial.all.items)) (l.prefix ++ z ∷ []))
      (take l.value-index l.value-items)) false l.visitor;
}
