use Rattle.std.proofs.Common.{◌≡◌, ℕ, ◌-◌, ◌<◌, ◌≤◌}
use Rattle.chr_indexes.specs.RangedRows.{IsWanted}
use Rattle.chr_indexes.proofs.ranges.crossing.cross.Given as goal

abbrev pub invariant-loop-at : goal.invariant-loop-at
invariant-loop-at l = record {
  left : l.left ≡ l.fn.left;
  right : l.right ≡ l.fn.right;
  within : l.at ≤ l.from;
  wanted : 0 < l.at → IsWanted l.fn.left.rows l.hash l.first (l.at - 1);
  none : (r : ℕ) → r < l.from → IsWanted l.fn.left.rows l.hash l.first r → IsWanted l.fn.right.rows l.hash l.second r
      → r < l.at;
}

abbrev pub decreases-loop-at : goal.decreases-loop-at
decreases-loop-at l = l.at
