use Rattle.std.proofs.Common.{◌≡◌, length}
use Rattle.chr_confluence.specs.working.Solving.{solve}
use Rattle.chr_overlaps.specs.working.Tables.{class_in}
use Rattle.chr_overlaps.proofs.GuardEquations.{left_from}
use Rattle.chr_overlaps.proofs.sorted.join_guard.Given as goal

abbrev pub invariant-loop-comparison : goal.invariant-loop-comparison
invariant-loop-comparison l = record {
  same : solve (class_in l.classes.terms.items) (left_from l.shift l.comparison-items l.comparison-index)
      ≡ solve (class_in l.initial.classes.terms.items) (left_from l.shift l.comparison-items 0);
  len : length l.classes.terms.items ≡ length l.initial.classes.terms.items;
}
