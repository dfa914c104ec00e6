use Rattle.std.proofs.Common.{take}
use Rattle.chr_overlaps.specs.working.Gathering.{Gathers}
use Rattle.chr_overlaps.proofs.constants.add_terms.Given as goal

abbrev pub invariant-loop-term : goal.invariant-loop-term
invariant-loop-term l = Gathers (take l.term-index l.terms) l.initial.found.items l.found.items
