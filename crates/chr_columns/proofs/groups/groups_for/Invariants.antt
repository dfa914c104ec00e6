use Rattle.std.proofs.Common.{◌≡◌, ℕ, ◌<◌, length}
use Rattle.std.specs.Prelude.{Some, slice_get}
use Rattle.chr_base.specs.declared.rule.Rule.{Rule}
use Rattle.chr_base.specs.Rules.{heads_of}
use Rattle.chr_columns.specs.working.Groups.{AreGrouped, HaveNoPlans}
use Rattle.chr_columns.proofs.groups.groups_for.Given as goal

abbrev pub invariant-loop-rule : goal.invariant-loop-rule
invariant-loop-rule l = record {
  grouped : (i : ℕ) (r : Rule) → i < l.rule-index → slice_get l.rules i ≡ Some r
      → AreGrouped l.groups.items r (length (heads_of r));
  no_plans : HaveNoPlans l.groups.items;
}
