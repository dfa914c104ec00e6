use Rattle.std.proofs.Common.{take, length}
use Rattle.chr_sorting.specs.FinestSorts.{sorts_of}
use Rattle.chr_sorting.specs.working.Weaving.{LeaveRoom}
use Rattle.chr_sorting.proofs.combinations.leave_room.Given as goal

abbrev pub invariant-loop-class : goal.invariant-loop-class
invariant-loop-class l = LeaveRoom (sorts_of l.sorting) (length l.classes) (take l.class-index l.classes)
