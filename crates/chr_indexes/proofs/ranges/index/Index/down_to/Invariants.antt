use Rattle.std.proofs.Common.{◌≡◌, ℕ, ◌-◌, ◌<◌, ◌≤◌}
use Rattle.chr_indexes.specs.RangedRows.{IsWanted}
use Rattle.chr_indexes.proofs.ranges.index.Index.down_to.Given as goal

abbrev pub invariant-loop-at : goal.invariant-loop-at
invariant-loop-at l = record {
  same : l.self ≡ l.fn.self;
  wanted : 0 < l.at → IsWanted l.fn.self.rows l.hash l.range (l.at - 1);
  none : (r : ℕ) → r ≤ l.row → IsWanted l.fn.self.rows l.hash l.range r → r < l.at;
}

abbrev pub decreases-loop-at : goal.decreases-loop-at
decreases-loop-at l = l.at
