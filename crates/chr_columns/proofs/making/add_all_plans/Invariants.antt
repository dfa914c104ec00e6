use Rattle.std.proofs.Common.{◌≡◌, ◌+◌, length}
use Rattle.chr_columns.specs.working.Making.{columns_in, KeepPlans}
use Rattle.chr_columns.specs.working.Resting.{ArePlanned, AreCovered}
use Rattle.chr_columns.proofs.making.add_all_plans.Given as goal

abbrev pub invariant-loop-number : goal.invariant-loop-number
invariant-loop-number l = record {
  tables : length l.keys.items ≡ length l.groups + 1;
  keep : KeepPlans l.fn.groups l.groups;
  planned : ArePlanned l.rules l.groups (columns_in l.keys.items);
  covered : AreCovered l.rules l.groups l.number;
}
