use Rattle.std.proofs.Common.{◌≡◌, drop, false}
use Rattle.chr_faults.specs.Places.{place_from}
use Rattle.chr_faults.proofs.place.place_outside.Given as goal

abbrev pub invariant-loop-i : goal.invariant-loop-i
invariant-loop-i l = place_from l.in_comment l.left l.i (drop l.i l.text) ≡ place_from false l.n 0 l.text
