use Rattle.std.proofs.Common.{◌≡◌, take, length}
use Rattle.chr_sorting.specs.working.Notes.{Joins}
use Rattle.chr_sorting.proofs.join.joined.Given as goal

abbrev pub invariant-loop-note : goal.invariant-loop-note
invariant-loop-note l = record {
  joins : Joins (take l.note-index l.notes) l.sorts.items;
  len : length l.sorts.items ≡ l.positions;
}
