use Rattle.std.proofs.Common.{◌≡◌, ◌≤◌, ◌-◌, length}
use Rattle.std.specs.List.{filter, range_with_len}
use Rattle.chr_base.specs.RuleTests.{is_variable}
use Rattle.chr_overlaps.specs.working.Tables.{class_in}
use Rattle.chr_overlaps.proofs.classes.Classes.free.Given as goal

abbrev pub invariant-loop-variable : goal.invariant-loop-variable
invariant-loop-variable l = record {
  items : l.free.items ≡ filter (λ x. is_variable x (class_in l.self.terms.items x))
      (range_with_len 1 (l.variable - 1));
  len : length l.free.items ≤ l.variable - 1;
  within : l.variable - 1 ≤ length l.self.terms.items - 1;
}
