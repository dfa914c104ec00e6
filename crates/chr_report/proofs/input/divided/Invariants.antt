use Rattle.std.specs.Prelude.{◌≡◌, ℕ, List, ◌++◌, length}
use Rattle.chr_report.specs.working.Divided.{AreText}
use Rattle.chr_report.proofs.input.divided.Given as goal

abbrev pub invariant-loop-line : goal.invariant-loop-line
invariant-loop-line l = (front : List ℕ) × (l.input ≡ front ++ l.rest) × AreText front

abbrev pub decreases-loop-line : goal.decreases-loop-line
decreases-loop-line l = length l.rest
