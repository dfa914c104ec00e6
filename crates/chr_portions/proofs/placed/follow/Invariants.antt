use Rattle.std.proofs.Common.{◌≡◌, ◌<◌, length}
use Rattle.chr_portions.specs.working.Placed.{IsPlaced, AreKept, AgreeBelow}
use Rattle.chr_portions.proofs.placed.follow.Given as goal

abbrev pub invariant-loop : goal.invariant-loop
invariant-loop l = record {
  at : l.at < length l.fn.entries;
  listed : length l.entries ≡ length l.fn.entries;
  placed : IsPlaced l.records l.places;
  few : length l.places ≡ length l.fn.places;
  below : AgreeBelow l.start l.fn.records l.records;
  size : length l.records ≡ length l.fn.records;
  same : AreKept l.fn.records l.fn.places l.records l.places;
}
