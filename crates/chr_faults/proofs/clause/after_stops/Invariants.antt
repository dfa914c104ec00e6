use Rattle.std.proofs.Common.{◌≡◌, ◌+◌, drop}
use Rattle.chr_faults.specs.working.ClausePlaces.{after_stops}
use Rattle.chr_faults.proofs.clause.after_stops.Given as goal

abbrev pub invariant-loop-at : goal.invariant-loop-at
invariant-loop-at l = l.at + after_stops l.left (drop l.at l.plain) ≡ after_stops l.stops l.plain
