use Rattle.std.proofs.Common.{subst}
use Rattle.std.proofs.lemmas.Bool.{OnTrue_at}
use Rattle.chr_sorting.specs.FinestSorts.{sorts_of}
use Rattle.chr_sorting.specs.SortedCaseLists.{AreCombinations}
use Rattle.chr_join.specs.working.Visits.{Setting}
use Rattle.chr_join.proofs.EqualSides.{equal_sorted, on_ok}
use Rattle.chr_join.proofs.Visits.{few_combinations}
use Rattle.chr_join.proofs.settled.have_equal_sides.Goals as goal

pub returns : goal.returns
returns c =
    let s : Setting = record {
      weighed = c.args.weighed.now;
      overlap = c.args.overlap.now;
      unified =
          c.args.unified.now;
    } in
    let u = c.requires.unified in
    let o = sorts_of c.args.sorting.now in
    on_ok c.visit_combinations.result c.is_ok.result _ _ c.is_ok.ensures.value (λ stopped v.
    equal_sorted c.sorted_cases.ensures.cases c.peak.ensures.left c.peak.ensures.right o s v.0 c.requires.overlap u
    c.requires.finest
    (subst (λ ks. AreCombinations o ks v.0) (c.requires.sorts u.rule1 u.rule2 u.are_rules) v.1)
    (few_combinations o c.args.sorts.now v.0 v.1 c.requires.few)
    (OnTrue_at c.if-not-has_equal_sides.false (c.has_equal_sides.ensures u.rule1 u.rule2 u.are_rules)))
    c.visit_combinations.ensures.visited
