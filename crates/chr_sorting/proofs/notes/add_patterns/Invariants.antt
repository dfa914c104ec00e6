use Rattle.std.proofs.Common.{◌≡◌, ◌++◌, take}
use Rattle.chr_confluence.specs.Sorts.{sorted_terms}
use Rattle.chr_sorting.specs.working.Notes.{numbering}
use Rattle.chr_sorting.proofs.notes.add_patterns.Given as goal

abbrev pub invariant-loop-pattern : goal.invariant-loop-pattern
invariant-loop-pattern l = l.placed.items ≡ l.initial.placed.items ++ sorted_terms numbering
    (take l.pattern-index l.patterns)
