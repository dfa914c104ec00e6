use Rattle.chr_columns.specs.working.Groups.{AreGrouped, StayGrouped, HaveNoPlans}
use Rattle.chr_columns.proofs.groups.add_groups.Given as goal

abbrev pub invariant-loop-place : goal.invariant-loop-place
invariant-loop-place l = record {
  grouped : AreGrouped l.groups.items l.rule l.place;
  stay : StayGrouped l.fn.groups.items l.groups.items;
  no_plans : HaveNoPlans l.fn.groups.items → HaveNoPlans l.groups.items;
}
