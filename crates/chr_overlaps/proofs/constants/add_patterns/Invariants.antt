use Rattle.std.proofs.Common.{take}
use Rattle.chr_base.specs.RuleTests.{terms_of}
use Rattle.chr_overlaps.specs.working.Gathering.{Gathers}
use Rattle.chr_overlaps.proofs.constants.add_patterns.Given as goal

abbrev pub invariant-loop-pattern : goal.invariant-loop-pattern
invariant-loop-pattern l = Gathers (terms_of (take l.pattern-index l.patterns)) l.initial.found.items l.found.items
