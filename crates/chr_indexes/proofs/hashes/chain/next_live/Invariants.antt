use Rattle.std.proofs.Common.{◌≡◌, get_or, length}
use Rattle.chr_indexes.specs.working.HashEntries.{hashes_of, flags_of, links_of, AreChained}
use Rattle.chr_indexes.proofs.hashes.chain.next_live.Given as goal

abbrev pub invariant-loop-at : goal.invariant-loop-at
invariant-loop-at l = record {
  chained : AreChained (length l.heads) l.rows l.heads;
  size : length l.rows ≡ length l.fn.rows;
  hashes : hashes_of l.rows ≡ hashes_of l.fn.rows;
  flags : flags_of l.rows ≡ flags_of l.fn.rows;
  at : l.at ≡ get_or (links_of l.rows) l.row 0;
}

abbrev pub decreases-loop-at : goal.decreases-loop-at
decreases-loop-at l = l.at
