use Rattle.std.proofs.Common.{take}
use Rattle.chr_overlaps.specs.working.Gathering.{AreConstantsIn, all_terms}
use Rattle.chr_overlaps.proofs.constants.constants.Given as goal

abbrev pub invariant-loop-rule : goal.invariant-loop-rule
invariant-loop-rule l = AreConstantsIn (all_terms (take l.rule-index l.rules)) l.found.items
