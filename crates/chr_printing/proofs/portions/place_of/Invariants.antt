use Rattle.std.proofs.Common.{◌≡◌, ◌+◌, drop}
use Rattle.chr_printing.specs.working.Portions.{place_at}
use Rattle.chr_printing.proofs.portions.place_of.Given as goal

abbrev pub invariant-loop-place : goal.invariant-loop-place
invariant-loop-place l = place_at l.cuts l.atom ≡ l.place + place_at (drop l.place l.cuts) l.atom
