use Rattle.std.proofs.Common.{sym, ◌∙◌}
use Rattle.chr_sorting.proofs.OneSort.{all_like, first_in}
use Rattle.chr_sorting.proofs.combinations.only_ordered.Goals as goal

pub returns-in-Ordered : goal.returns-in-Ordered
returns-in-Ordered c = record {
  there = first_in c.in_ok-sort.field-0.now c.args.classes.now c.in_ok-sort.ensures.value;
  all = all_like c.in_ok-sort.field-0.now c.args.classes.now
      (sym c.count_of.ensures.count ∙ c.if-count_of-classes.true);
  kind = sym c.in-Ordered.ensures;
}
