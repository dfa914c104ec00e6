use Rattle.std.proofs.Common.{◌≡◌, ◌++◌, take, map}
use Rattle.chr_sorting.specs.working.Notes.{term_note}
use Rattle.chr_sorting.proofs.notes.add_term_notes.Given as goal

abbrev pub invariant-loop-position : goal.invariant-loop-position
invariant-loop-position l = l.notes.items ≡ l.initial.notes.items ++ map (term_note l.heads)
    (take l.position-index l.placed)
