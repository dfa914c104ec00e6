use Rattle.std.proofs.Common.{ℕ, ◌<◌, ◌≤◌}
use Rattle.chr_portions.specs.working.Skips.{record_at, IsSought}
use Rattle.chr_portions.proofs.skips.within.Given as goal

abbrev pub invariant-loop-at : goal.invariant-loop-at
invariant-loop-at l = record {
  within : l.at ≤ l.to;
  above : (p : ℕ) → l.from ≤ p → p < l.to → IsSought l.sought (record_at l.records p) → p < l.at;
}

abbrev pub decreases-loop-at : goal.decreases-loop-at
decreases-loop-at l = l.at
