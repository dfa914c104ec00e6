use Rattle.std.proofs.Common.{◌≡◌, ◌-◌, take, false}
use Rattle.std.specs.List.{flat_map}
use Rattle.chr_types.specs.working.Walks.{walked, walked_at}
use Rattle.chr_types.specs.Visits.{Visited}
use Rattle.chr_types.proofs.walk.+walk.Given as goal

abbrev pub decreases-walk : goal.decreases-walk
decreases-walk g l = l.left

abbrev pub invariant-loop-candidate : goal.invariant-loop-candidate
invariant-loop-candidate g l = record {
  prefix : l.prefix.items ≡ l.initial.prefix.items;
  ready : g.V.Visit.ready l.visitor;
  visited : Visited g.V.Visit.step l.initial.visitor (flat_map
      (walked_at (g.T.Beginnings.admits l.wanted) (walked (g.T.Beginnings.admits l.wanted) l.candidates (l.left - 1))
      (l.left - 1) l.initial.prefix.items l.holes) (take l.candidate-index l.candidates)) false l.visitor;
}
