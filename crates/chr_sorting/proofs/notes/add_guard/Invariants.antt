use Rattle.std.proofs.Common.{◌≡◌, ◌++◌, take}
use Rattle.chr_sorting.specs.working.Notes.{guard_notes}
use Rattle.chr_sorting.proofs.notes.add_guard.Given as goal

abbrev pub invariant-loop-comparison : goal.invariant-loop-comparison
invariant-loop-comparison l = l.notes.items ≡ l.initial.notes.items
    ++ guard_notes l.heads (take l.comparison-index l.guard)
