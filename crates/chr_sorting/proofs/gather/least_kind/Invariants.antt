use Rattle.std.proofs.Common.{take}
use Rattle.chr_sorting.specs.FinestSorts.{sort_in, kind_of}
use Rattle.chr_sorting.specs.working.Notes.{IsLeastKind}
use Rattle.chr_sorting.proofs.gather.least_kind.Given as goal

abbrev pub invariant-loop-note : goal.invariant-loop-note
invariant-loop-note l = IsLeastKind (take l.note-index l.notes) (sort_in l.sorts) l.sort (kind_of l.kind)
