use Rattle.std.proofs.Common.{◌≡◌, length, take}
use Rattle.chr_indexes.specs.working.HashEntries.{hashes_of, flags_of, AreChained}
use Rattle.chr_indexes.proofs.hashes.chain.relink.Given as goal

abbrev pub invariant-loop-i : goal.invariant-loop-i
invariant-loop-i l = record {
  chained : AreChained (length l.fn.heads) (take l.i l.rows) l.heads;
  size : length l.heads ≡ length l.fn.heads;
  rows : length l.rows ≡ length l.fn.rows;
  hashes : hashes_of l.rows ≡ hashes_of l.fn.rows;
  flags : flags_of l.rows ≡ flags_of l.fn.rows;
}
