use Rattle.std.proofs.Common.{drop}
use Rattle.chr_ops.proofs.OutsideSteps.{IsWalked}
use Rattle.chr_ops.proofs.outside.ranges_outside.Given as goal

abbrev pub invariant-loop-range : goal.invariant-loop-range
invariant-loop-range l = IsWalked l.parts.items (drop l.range-index l.ranges) l.rest l.ranges l.others
