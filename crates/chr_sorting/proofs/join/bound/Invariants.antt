use Rattle.std.proofs.Common.{take}
use Rattle.std.specs.List.{All}
use Rattle.chr_sorting.specs.working.Notes.{IsBelow}
use Rattle.chr_sorting.proofs.join.bound.Given as goal

abbrev pub invariant-loop-note : goal.invariant-loop-note
invariant-loop-note l = All (IsBelow l.bound) (take l.note-index l.notes)
