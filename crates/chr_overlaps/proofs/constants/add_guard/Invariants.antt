use Rattle.std.proofs.Common.{take}
use Rattle.chr_confluence.specs.Constants.{guard_terms}
use Rattle.chr_overlaps.specs.working.Gathering.{Gathers}
use Rattle.chr_overlaps.proofs.constants.add_guard.Given as goal

abbrev pub invariant-loop-comparison : goal.invariant-loop-comparison
invariant-loop-comparison l = Gathers (guard_terms (take l.comparison-index l.guard)) l.initial.found.items
    l.found.items
