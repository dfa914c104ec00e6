use Rattle.std.proofs.Common.{All}
use Rattle.chr_workers.specs.ClaimSeats.{IsOf}
use Rattle.chr_workers.proofs.parts.fn.start.scope.Given as goal

abbrev pub invariant-loop-seat : goal.invariant-loop-seat
invariant-loop-seat g l = All (λ s. IsOf l.places.claims s) l.seats.items

abbrev pub decreases-loop-seat : goal.decreases-loop-seat
decreases-loop-seat g l = goal.left-loop-seat g l
