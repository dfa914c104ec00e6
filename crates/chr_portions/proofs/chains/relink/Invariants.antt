use Rattle.std.proofs.Common.{◌≡◌, length}
use Rattle.chr_portions.specs.working.Chains.{AreNext, AreHeads, AreAlike}
use Rattle.chr_portions.proofs.chains.relink.Given as goal

abbrev pub invariant-loop-place : goal.invariant-loop-place
invariant-loop-place l = record {
  size : length l.records ≡ length l.fn.records;
  slots : length l.heads ≡ length l.fn.heads;
  alike : AreAlike l.fn.records l.records;
  next : AreNext (length l.fn.heads) l.records l.place;
  heads : AreHeads l.records l.heads l.place;
}
