use Rattle.std.proofs.Common.{ℕ, ℤ, List, ◌≤ℤ◌}
use Rattle.chr_types.specs.working.Search.{CandidatesBelow, AreCountedFrom}
use Rattle.chr_types.proofs.candidates.add_candidates.Given as goal

abbrev pub invariant-loop-value : goal.invariant-loop-value
invariant-loop-value l = record {
  near : l.first ≤ℤ l.value;
  within : l.value ≤ℤ l.last;
  below : (n : ℕ) (cs : List ℤ) → CandidatesBelow n cs l.initial.found.items l.first
      → AreCountedFrom cs l.base l.first l.last → CandidatesBelow n cs l.found.items l.value;
}
