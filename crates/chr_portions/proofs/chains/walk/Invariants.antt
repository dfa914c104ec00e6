use Rattle.std.proofs.Common.{◌≡◌, ℕ, ◌-◌, ◌%◌, ◌<◌, ◌≤◌, length}
use Rattle.chr_portions.specs.working.Skips.{record_at, IsSought}
use Rattle.chr_portions.specs.working.Chains.{slot_of, AreNext, AreAlike}
use Rattle.chr_portions.proofs.chains.walk.Given as goal

abbrev pub invariant-loop-at : goal.invariant-loop-at
invariant-loop-at l = record {
  size : length l.records ≡ length l.fn.records;
  alike : AreAlike l.fn.records l.records;
  next : AreNext l.slots l.records (length l.fn.records);
  within : l.at ≤ l.from;
  slot : 0 < l.at → slot_of l.slots l.records (l.at - 1) ≡ l.sought.hash % l.slots;
  above : (p : ℕ) → p < l.from → IsSought l.sought (record_at l.records p) → p < l.at;
}

abbrev pub decreases-loop-at : goal.decreases-loop-at
decreases-loop-at l = l.at
