use Rattle.std.proofs.Common.{◌≡◌, ◌≤◌, Some, ℕ, length, slice_get}
use Rattle.chr_join.specs.working.Portions.{AreCopies}
use Rattle.chr_join.proofs.copies.originals.Given as goal

abbrev pub invariant-loop-place : goal.invariant-loop-place
invariant-loop-place l = record {
  number : length l.places.items ≡ l.place;
  same : (i k : ℕ) → slice_get l.places.items i ≡ Some k → (k ≤ i) × AreCopies l.rules k i;
}
