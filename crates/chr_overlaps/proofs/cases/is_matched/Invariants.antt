use Rattle.std.proofs.Common.{◌≡◌, ◌+◌, drop}
use Rattle.chr_confluence.specs.Matchings.{names}
use Rattle.chr_overlaps.proofs.cases.is_matched.Given as goal

abbrev pub invariant-loop-entry : goal.invariant-loop-entry
invariant-loop-entry l = names (drop l.entry-index l.matching) (l.place + 1) ≡ names l.matching (l.place + 1)
