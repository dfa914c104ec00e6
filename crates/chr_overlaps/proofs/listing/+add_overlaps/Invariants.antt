use Rattle.std.proofs.Common.{◌≡◌, ◌++◌, ◌-◌, length}
use Rattle.std.specs.List.{flat_map, range_with_len}
use Rattle.chr_base.specs.Rules.{heads_of}
use Rattle.chr_overlaps.proofs.Steps.{next}
use Rattle.chr_overlaps.proofs.listing.+add_overlaps.Given as goal

abbrev pub decreases-add_overlaps : goal.decreases-add_overlaps
decreases-add_overlaps l = length (heads_of l.first.now) - length l.begun.now.matching.items

abbrev pub invariant-loop-entry : goal.invariant-loop-entry
invariant-loop-entry l = l.found.items ≡ l.initial.found.items ++ flat_map (next l.first l.second l.begun)
    (range_with_len 0 l.entry)
