use Rattle.std.proofs.Common.{◌≡◌, get_or, length}
use Rattle.chr_indexes.specs.working.HashEntries.{AreChained}
use Rattle.chr_indexes.proofs.hashes.chain.first_live.Given as goal

abbrev pub invariant-loop-at : goal.invariant-loop-at
invariant-loop-at l = record {
  chained : AreChained (length l.fn.heads) l.rows l.heads;
  size : length l.heads ≡ length l.fn.heads;
  at : l.at ≡ get_or l.heads l.slot 0;
}

abbrev pub decreases-loop-at : goal.decreases-loop-at
decreases-loop-at l = l.at
