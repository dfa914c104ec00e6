use Rattle.std.proofs.Common.{◌≡◌, ◌+◌, length, take}
use Rattle.chr_plans.specs.Plans.{partners_of}
use Rattle.chr_columns.specs.working.Making.{columns_in, Grows}
use Rattle.chr_columns.specs.working.Resting.{AreLookupsIndexed}
use Rattle.chr_columns.proofs.making.plan_for.Given as goal

abbrev pub invariant-loop-index : goal.invariant-loop-index
invariant-loop-index l = record {
  tables : length l.keys.items ≡ length l.groups + 1;
  grows : Grows (columns_in l.fn.keys.items) (columns_in l.keys.items);
  partners : partners_of l.lookups.items ≡ take l.index l.partners.items;
  indexed : AreLookupsIndexed l.rule l.groups (columns_in l.keys.items) l.lookups.items;
}
