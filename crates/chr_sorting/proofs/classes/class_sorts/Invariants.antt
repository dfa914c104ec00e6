use Rattle.std.proofs.Common.{◌≡◌, map, take}
use Rattle.chr_confluence.specs.SortedCases.{joint_sort}
use Rattle.chr_sorting.specs.FinestSorts.{sorts_of}
use Rattle.chr_sorting.proofs.classes.class_sorts.Given as goal

abbrev pub invariant-loop-class : goal.invariant-loop-class
invariant-loop-class l = l.sorts.items ≡ map (joint_sort (sorts_of l.sorting) l.first l.second)
    (take l.class-index l.class-items)
