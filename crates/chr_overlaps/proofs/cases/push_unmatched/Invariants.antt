use Rattle.std.proofs.Common.{◌≡◌, ◌++◌, drop}
use Rattle.chr_confluence.specs.Matchings.{left_over}
use Rattle.chr_overlaps.proofs.cases.push_unmatched.Given as goal

abbrev pub invariant-loop-place : goal.invariant-loop-place
invariant-loop-place l = l.atoms.items ++ left_over l.matching l.place (drop l.place l.heads) ≡ l.initial.atoms.items
    ++ left_over l.matching 0 l.heads
