use Rattle.std.proofs.Common.{◌≡◌, ◌≤◌, length}
use Rattle.chr_portions.specs.working.Placed.{IsPlaced, AreSame, AreLikeBelow}
use Rattle.chr_portions.specs.working.Chains.{AreNext, AreHeads}
use Rattle.chr_portions.proofs.placed.rearrange.Given as goal

abbrev pub invariant-loop-at : goal.invariant-loop-at
invariant-loop-at l = record {
  within : l.at ≤ length l.records;
  from : l.start ≤ l.at;
  slots : length l.heads ≡ length l.fn.heads;
  heads : AreHeads l.records l.heads l.at;
}

abbrev pub decreases-loop-at : goal.decreases-loop-at
decreases-loop-at l = l.at

abbrev pub invariant-loop-place : goal.invariant-loop-place
invariant-loop-place l = record {
  size : length l.records ≡ length l.fn.records;
  slots : length l.heads ≡ length l.fn.heads;
  placed : IsPlaced l.records l.places;
  same : AreSame l.fn.records l.fn.places l.records l.places;
  below : AreLikeBelow l.start l.fn.records l.records;
  next : AreNext (length l.heads) l.records l.place;
  heads : AreHeads l.records l.heads l.place;
}
