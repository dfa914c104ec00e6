use Rattle.std.proofs.Common.{◌≡◌, take}
use Rattle.chr_overlaps.proofs.overlap.Overlap.copy.Given as goal

abbrev pub invariant-loop-entry : goal.invariant-loop-entry
invariant-loop-entry l = l.matching.items ≡ take l.entry-index l.entry-items
