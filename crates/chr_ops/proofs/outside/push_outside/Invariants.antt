use Rattle.std.proofs.Common.{◌≡◌, List, length}
use Rattle.chr_ops.specs.declared.range.IdRange.{IdRange}
use Rattle.chr_ops.specs.working.Outside.{AddsOutside, IsNext}
use Rattle.chr_ops.proofs.outside.push_outside.Given as goal

abbrev pub invariant-loop-rest : goal.invariant-loop-rest
invariant-loop-rest l = record {
  next : IsNext l.parts.items l.left l.rest;
  ends : l.left.hi ≡ l.fn.range.hi;
  to_come : (new : List IdRange) → AddsOutside l.parts.items l.left l.rest new
      → AddsOutside l.fn.parts.items l.fn.range l.fn.others new;
}

abbrev pub decreases-loop-rest : goal.decreases-loop-rest
decreases-loop-rest l = length l.rest
