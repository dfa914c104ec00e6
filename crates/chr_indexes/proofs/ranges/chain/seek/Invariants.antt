use Rattle.std.proofs.Common.{◌≡◌, ◌-◌, ◌%◌, ◌≤◌, ◌<◌, ℕ, length}
use Rattle.std.specs.Prelude.{vec_capacity}
use Rattle.chr_indexes.specs.working.RangeChains.{row_slot, AreLinked, IsSought}
use Rattle.chr_indexes.proofs.ranges.chain.seek.Given as goal

abbrev pub invariant-loop-at : goal.invariant-loop-at
invariant-loop-at l = record {
  as_many : length l.chains.links.items ≡ length l.rows;
  heads : l.chains.heads ≡ l.fn.chains.heads;
  room : vec_capacity l.chains.links ≡ vec_capacity l.fn.chains.links;
  linked : AreLinked (length l.chains.heads.items) l.rows l.chains.links.items (length l.rows);
  within : l.at ≤ l.from;
  slot : 0 < l.at → row_slot (length l.chains.heads.items) l.rows (l.at - 1) ≡ l.hash % length l.chains.heads.items;
  above : (r : ℕ) → r < l.from → IsSought l.rows l.hash l.range r → r < l.at;
}

abbrev pub decreases-loop-at : goal.decreases-loop-at
decreases-loop-at l = l.at
