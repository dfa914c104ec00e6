use Rattle.std.proofs.Common.{◌≡◌, ℕ, ◌<◌, ◌≤◌, length}
use Rattle.chr_portions.specs.working.Skips.{record_at, IsSought, AreSkips}
use Rattle.chr_portions.proofs.skips.find.Given as goal

abbrev pub invariant-loop-at : goal.invariant-loop-at
invariant-loop-at l = record {
  size : length l.skips ≡ length l.fn.skips;
  linked : AreSkips l.records l.skips (length l.fn.skips);
  within : l.at ≤ l.fn.at;
  above : (p : ℕ) → p < l.fn.at → IsSought l.sought (record_at l.records p) → p < l.at;
}

abbrev pub decreases-loop-at : goal.decreases-loop-at
decreases-loop-at l = l.at
