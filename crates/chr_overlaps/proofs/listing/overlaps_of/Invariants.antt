use Rattle.std.proofs.Common.{◌≡◌, ◌-◌, ◌≤◌, ◌⊎◌}
use Rattle.std.specs.List.{flat_map, range_with_len}
use Rattle.chr_overlaps.specs.working.Listing.{overlaps_of_rule}
use Rattle.chr_overlaps.proofs.listing.overlaps_of.Given as goal

abbrev pub invariant-loop-place : goal.invariant-loop-place
invariant-loop-place l = record {
  found : l.found.items ≡ flat_map (overlaps_of_rule l.rules)
      (range_with_len l.fn.places.start (l.place - l.fn.places.start));
  reach : (l.place ≤ l.end) ⊎ (l.place ≡ l.fn.places.start);
}
