use Rattle.std.proofs.Common.{◌≡◌, ◌+◌, List, length}
use Rattle.std.specs.Prelude.{Some, slice_get}
use Rattle.chr_base.specs.declared.rule.Rule.{Rule}
use Rattle.chr_columns.specs.working.Making.{columns_in, KeepPlans}
use Rattle.chr_columns.specs.working.Resting.{ArePlanned, HavePlans}
use Rattle.chr_columns.proofs.making.add_plans.Given as goal

abbrev pub invariant-loop-place : goal.invariant-loop-place
invariant-loop-place l = record {
  tables : length l.keys.items ≡ length l.groups + 1;
  keep : KeepPlans l.fn.groups l.groups;
  planned : (rules : List Rule) → slice_get rules l.number ≡ Some l.rule
      → ArePlanned rules l.fn.groups (columns_in l.fn.keys.items) → ArePlanned rules l.groups (columns_in l.keys.items);
  plans : HavePlans l.groups l.number l.rule l.place;
}
