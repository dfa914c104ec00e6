use Rattle.std.proofs.Common.{◌≡◌, ◌%◌, ◌≤◌, ◌<◌, ℕ, length, get_or}
use Rattle.std.specs.Prelude.{Some, None}
use Rattle.chr_indexes.specs.working.HashEntries.{hashes_of, flags_of, live_hashes, IsIndex, IsLivePlace}
use Rattle.chr_indexes.proofs.hashes.chain.seek.Given as goal

abbrev pub invariant-loop-at : goal.invariant-loop-at
invariant-loop-at l = record {
  index : IsIndex l.rows l.heads;
  size : length l.rows ≡ length l.fn.rows;
  hashes : hashes_of l.rows ≡ hashes_of l.fn.rows;
  flags : flags_of l.rows ≡ flags_of l.fn.rows;
  within : l.at ≤ l.from;
  live : IsLivePlace l.heads (hashes_of l.fn.rows) (flags_of l.fn.rows) (l.hash % length l.heads) l.at;
  above : (r : ℕ) → r < l.from → get_or (live_hashes (hashes_of l.fn.rows) (flags_of l.fn.rows)) r None ≡ Some l.hash
      → r < l.at;
}

abbrev pub decreases-loop-at : goal.decreases-loop-at
decreases-loop-at l = l.at
