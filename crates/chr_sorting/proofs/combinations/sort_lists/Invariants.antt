use Rattle.std.proofs.Common.{take}
use Rattle.chr_sorting.specs.FinestSorts.{sorts_of}
use Rattle.chr_sorting.specs.working.Weaving.{held, AreListsOf}
use Rattle.chr_sorting.proofs.combinations.sort_lists.Given as goal

abbrev pub invariant-loop-i : goal.invariant-loop-i
invariant-loop-i l = AreListsOf (sorts_of l.sorting) (take l.i l.classes) l.classes (held l.all.items)
