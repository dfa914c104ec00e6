use Rattle.std.proofs.Common.{◌≡◌, ℕ, ◌-◌, ◌<◌, ◌≤◌, get_or}
use Rattle.std.specs.Prelude.{Some, None}
use Rattle.chr_indexes.proofs.hashes.index.Index.down_to.Given as goal

abbrev pub invariant-loop-at : goal.invariant-loop-at
invariant-loop-at l = record {
  same : l.self ≡ l.fn.self;
  live : 0 < l.at → get_or l.fn.self.rows (l.at - 1) None ≡ Some l.hash;
  none : (r : ℕ) → r ≤ l.row → get_or l.fn.self.rows r None ≡ Some l.hash → r < l.at;
}

abbrev pub decreases-loop-at : goal.decreases-loop-at
decreases-loop-at l = l.at
