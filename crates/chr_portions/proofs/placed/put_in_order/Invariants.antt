use Rattle.std.proofs.Common.{◌≡◌, length}
use Rattle.chr_portions.specs.working.Placed.{IsPlaced, AreKept, AgreeBelow}
use Rattle.chr_portions.proofs.placed.put_in_order.Given as goal

abbrev pub invariant-loop-i : goal.invariant-loop-i
invariant-loop-i l = record {
  listed : length l.entries ≡ length l.fn.entries;
  placed : IsPlaced l.records l.places;
  few : length l.places ≡ length l.fn.places;
  below : AgreeBelow l.start l.fn.records l.records;
  size : length l.records ≡ length l.fn.records;
  same : AreKept l.fn.records l.fn.places l.records l.places;
}
