use Rattle.std.proofs.Common.{◌≡◌, ◌++◌, ◌-◌}
use Rattle.std.specs.List.{flat_map, range_with_len}
use Rattle.chr_overlaps.specs.working.Listing.{overlaps_of_pair}
use Rattle.chr_overlaps.proofs.listing.add_overlaps_of.Given as goal

abbrev pub invariant-loop-other : goal.invariant-loop-other
invariant-loop-other l = l.found.items ≡ l.initial.found.items ++ flat_map (overlaps_of_pair l.rules l.place)
    (range_with_len l.place (l.other - l.place))
