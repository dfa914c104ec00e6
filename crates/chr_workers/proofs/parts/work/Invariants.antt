use Rattle.chr_workers.specs.ClaimSeats.{IsOf}
use Rattle.chr_workers.proofs.parts.work.Given as goal

abbrev pub invariant-loop : goal.invariant-loop
invariant-loop g l = IsOf l.places.claims l.seat
