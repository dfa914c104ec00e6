use Rattle.std.proofs.Common.{take}
use Rattle.chr_overlaps.specs.working.Gathering.{AreConstantsIn}
use Rattle.chr_sorting.specs.FinestSorts.{sort_in}
use Rattle.chr_sorting.specs.working.Notes.{terms_at}
use Rattle.chr_sorting.proofs.gather.constants_of.Given as goal

abbrev pub invariant-loop-note : goal.invariant-loop-note
invariant-loop-note l = AreConstantsIn (terms_at (sort_in l.sorts) l.sort (take l.note-index l.notes)) l.found.items
